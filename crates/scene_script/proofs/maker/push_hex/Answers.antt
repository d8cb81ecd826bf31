use Rattle.scene_script.proofs.HexLemmas.{two_digits}
use Rattle.scene_script.proofs.maker.push_hex.Goals as goal

pub returns-clause-bytes : goal.returns-clause-bytes
returns-clause-bytes c =
    two_digits c.args.text.now.bytes c.push.new.self.bytes c.push-2.new.self.bytes c.args.byte c.hex_digit.result c.hex_digit-2.result
    (c.push.ensures.ascii c.hex_digit.ensures.ascii) (c.push-2.ensures.ascii c.hex_digit-2.ensures.ascii)
    c.hex_digit.ensures.value c.hex_digit-2.ensures.value
