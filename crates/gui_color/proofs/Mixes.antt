-- What mixing two colours gives, channel by channel.
use Rattle.std.proofs.Common.{◌≡◌, ℕ, ◌+◌, ◌*◌, ◌/◌, ◌∙◌, refl, sym, ap, arith, Bool, true, false, if◌then◌else◌}
use Rattle.gui_base.specs.declared.color.Rgb565.{Rgb565}
use Rattle.gui_base.specs.Color.{red, green, blue, color, parts, mix_channel, mix}
use Rattle.gui_color.specs.Masks.{masked}
use Rattle.gui_color.proofs.Floor.{mix_channel_is}

-- the channels of two colours, each mixed by itself
pub mix_is : (fg bg : Rgb565) (opa left : ℕ) → left + parts opa ≡ 32
    → mix fg bg opa
    ≡ color ((red bg * left + red fg * parts opa) / 32) ((green bg * left + green fg * parts opa) / 32) ((blue bg * left + blue fg * parts opa) / 32)
unfolding mix
mix_is fg bg opa left h =
    let all : parts opa + left ≡ 32 = omega (arith, h) in
    rw (mix_channel_is (red fg) (red bg) (parts opa) left all, mix_channel_is (green fg) (green bg) (parts opa) left all, mix_channel_is (blue fg) (blue bg) (parts opa) left all) refl

whole_channel : (f b : ℕ) → mix_channel f b 32 ≡ f
whole_channel f b = mix_channel_is f b 32 0 refl ∙ omega arith

no_channel : (f b : ℕ) → mix_channel f b 0 ≡ b
no_channel f b = mix_channel_is f b 0 32 refl ∙ omega arith

-- all parts give the upper colour, and no parts leave the lower
pub mix_all : (fg bg : Rgb565) (opa : ℕ) → parts opa ≡ 32 → mix fg bg opa ≡ fg
unfolding mix
mix_all fg bg opa h =
    rw (h, whole_channel (red fg) (red bg), whole_channel (green fg) (green bg), whole_channel (blue fg) (blue bg)) (ap (λ (n : ℕ). record { 0 = n }) (omega arith))

pub mix_none : (fg bg : Rgb565) (opa : ℕ) → parts opa ≡ 0 → mix fg bg opa ≡ bg
unfolding mix
mix_none fg bg opa h =
    rw (h, no_channel (red fg) (red bg), no_channel (green fg) (green bg), no_channel (blue fg) (blue bg)) (ap (λ (n : ℕ). record { 0 = n }) (omega arith))

-- the same under a bit
pub masked_all : (set : Bool) (fg bg : Rgb565) (opa : ℕ) → parts opa ≡ 32 → (if set then fg else bg) ≡ masked set fg opa bg
masked_all true fg bg opa h = sym (mix_all fg bg opa h)
masked_all false fg bg opa h = refl

pub masked_none : (set : Bool) (fg bg : Rgb565) (opa : ℕ) → parts opa ≡ 0 → bg ≡ masked set fg opa bg
masked_none true fg bg opa h = sym (mix_none fg bg opa h)
masked_none false fg bg opa h = refl

-- the same where red stands 64 times as high, and green 32 times
red_high : (r left share : ℕ) → (r * (left * 64) + share * 64) / 2048 * 2048 ≡ (r * left + share) / 32 * 2048
red_high r left share = omega arith

green_high : (g left share b : ℕ) → ((g * 32 * left + share * 32) / 1024 * 1024 + b) / 32 ≡ (g * left + share) / 32 * 32 + b / 32
green_high g left share b = omega arith

pub mix_high : (fg bg : Rgb565) (opa left red_left red_share green_share blue_share : ℕ) → left + parts opa ≡ 32 → red_left ≡ left * 64 → red_share ≡ red fg * parts opa * 64 → green_share ≡ green fg * parts opa * 32 → blue_share ≡ blue fg * parts opa
    → record { 0 = (red bg * red_left + red_share) / 2048 * 2048 + ((green bg * 32 * left + green_share) / 1024 * 1024 + (blue bg * left + blue_share)) / 32 } ≡ mix fg bg opa
mix_high fg bg opa left red_left red_share green_share blue_share all red_left_is red_is green_is blue_is =
    rw (mix_is fg bg opa left all, red_left_is, red_is, green_is, blue_is, red_high (red bg) left (red fg * parts opa), green_high (green bg) left (green fg * parts opa) (blue bg * left + blue fg * parts opa)) (ap (λ (n : ℕ). record { 0 = n }) (omega arith))
