use Rattle.std.proofs.Common.{◌≡◌, IsSome}
use Rattle.dcs_tests.proofs.sending.arrives.Given as goal

-- it is in flight, on a panel of the same sizes
abbrev pub invariant-loop : goal.invariant-loop
invariant-loop g l = record {
  flies : IsSome (g.P.Panel.state l.panel).coming;
  width : (g.P.Panel.state l.panel).width ≡ (g.P.Panel.state l.fn.panel).width;
  height : (g.P.Panel.state l.panel).height ≡ (g.P.Panel.state l.fn.panel).height;
  limit : (g.P.Panel.state l.panel).limit ≡ (g.P.Panel.state l.fn.panel).limit;
  block : (g.P.Panel.state l.panel).block ≡ (g.P.Panel.state l.fn.panel).block;
}
