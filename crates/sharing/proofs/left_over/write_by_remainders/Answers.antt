use Rattle.std.proofs.Common.{◌≡◌, ◌-◌, sum, refl, ap, ◌∙◌, arith}
use Rattle.sharing.specs.LeftOver.{whole_parts, hand_out}
use Rattle.sharing.proofs.HandOut.{left_over_is}
use Rattle.sharing.proofs.LeftOverOnly.{the_one_by_remainders}
use Rattle.sharing.proofs.left_over.write_by_remainders.Goals as goal

pub returns : goal.returns
returns c =
    let a = c.args.division.now.amount in
    let ws = c.args.division.now.weights.now in
    let nothing = c.args.division.now.admitted.nothing in
    let after = c.write_whole_parts-left.new in
    let written = c.write_whole_parts-left.ensures in
    let left : c.write_whole_parts-left.result ≡ a - sum (whole_parts a ws) = omega (arith, written.left) in
    let shared = c.hand_out.ensures ∙ ap (λ n. hand_out n after.rests after.shares) left ∙ left_over_is a ws _ _ _ nothing refl written.rests written.parts in
    record { shares = shared; by_remainders = the_one_by_remainders a ws _ nothing shared }
