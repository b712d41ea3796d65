use Rattle.std.proofs.Common.{◌≡◌, ℕ, ◌*◌, ◌/◌, ◌%◌, ◌<◌, ◌≤◌, List, length, get_or, sum, sym, ap, ◌∙◌, arith, take_all}
use Rattle.std.proofs.lemmas.List.{ext_get_or, length-map}
use Rattle.std.proofs.lemmas.List.Edits.{fill_by_more}
use Rattle.std.proofs.lemmas.List.Sums.{sum_by_more, sum_by_more_le}
use Rattle.sharing.specs.LeftOver.{whole_parts, remainders}
use Rattle.sharing.specs.LeftOverLaws.{part_at, rest_at, parts_le}
use Rattle.sharing.proofs.left_over.write_whole_parts.Goals as goal

-- The units of a weight are the whole part at its place, and what remains is the remainder there.
part_here : (a : ℕ) (ws : List ℕ) (i total units : ℕ) → total ≡ sum ws → units ≡ a * get_or ws i 0 / total → units ≡ get_or (whole_parts a ws) i 0
part_here a ws i total units whole part = part ∙ ap (λ t. a * get_or ws i 0 / t) whole ∙ sym (part_at a ws i)

rest_here : (a : ℕ) (ws : List ℕ) (i total rest : ℕ) → total ≡ sum ws → rest ≡ a * get_or ws i 0 % total → rest ≡ get_or (remainders a ws) i 0
rest_here a ws i total rest whole remains = remains ∙ ap (λ t. a * get_or ws i 0 % t) whole ∙ sym (rest_at a ws i)

pub overflow_sub-left : goal.overflow_sub-left
overflow_sub-left c =
    let a = c.args.division.now.amount in
    let ws = c.args.division.now.weights.now in
    let i = c.loop-i.i in
    let long = length-map ws (λ w. a * w / sum ws) in
    let inside : i < length (whole_parts a ws) = omega (arith, c.requires.shares) in
    omega (arith, part_here a ws i _ _ c.args.division.now.admitted.total_is c.portion_of-portion.ensures.units, sum_by_more_le (λ x. x) (whole_parts a ws) i 0 inside, parts_le a ws)

pub loop-i-preserved : goal.loop-i-preserved
loop-i-preserved c =
    let a = c.args.division.now.amount in
    let ws = c.args.division.now.weights.now in
    let i = c.loop-i.i in
    let total = c.args.division.now.admitted.total_is in
    let portion = c.portion_of-portion.ensures in
    let before = c.loop-i.invariant in
    let long = length-map ws (λ w. a * w / sum ws) in
    let inside : i < length (whole_parts a ws) = omega (arith, c.requires.shares) in
    let in-shares : i < length c.loop-i.shares = omega (arith, c.requires.shares) in
    let in-rests : i < length c.loop-i.rests = omega (arith, c.requires.shares, c.requires.rests) in
    let part = part_here a ws i _ _ total portion.units in
    let rest = rest_here a ws i _ _ total portion.remainder in
    record {
      left = omega (arith, part, before.left, sum_by_more (λ x. x) (whole_parts a ws) i 0 inside, sum_by_more_le (λ x. x) (whole_parts a ws) i 0 inside, parts_le a ws);
      parts = simp part (fill_by_more (λ k. get_or (whole_parts a ws) k 0) c.loop-i.shares i 0 in-shares before.parts);
      rests = simp rest (fill_by_more (λ k. get_or (remainders a ws) k 0) c.loop-i.rests i 0 in-rests before.rests);
    }

pub returns : goal.returns
returns c =
    let a = c.args.division.now.amount in
    let ws = c.args.division.now.weights.now in
    let i = c.loop-i.i in
    let end = c.loop-i.invariant in
    let parts-length = length-map ws (λ w. a * w / sum ws) in
    let rests-length = length-map ws (λ w. a * w % sum ws) in
    let all_parts : length (whole_parts a ws) ≤ i = omega (arith, c.requires.shares) in
    record {
      parts = ext_get_or 0 c.loop-i.shares (whole_parts a ws) (omega (arith, c.requires.shares)) (λ k h. end.parts k (omega (arith, c.requires.shares)));
      rests = ext_get_or 0 c.loop-i.rests (remainders a ws) (omega (arith, c.requires.rests)) (λ k h. end.rests k (omega (arith, c.requires.shares, c.requires.rests)));
      left = omega (arith, end.left, ap sum (take_all i (whole_parts a ws) all_parts));
    }
