use Rattle.std.proofs.Common.{◌≡◌, ◌<◌, eqb, length, get_or, drop, Some, None, vec_items, refl, sym, ◌∙◌, rules, tests}
use Rattle.lines.specs.Cuts.{pieces}
use Rattle.lines.specs.Numbers.{numbers_in}
use Rattle.lines.proofs.NumberLines.{numbers_on, line_more, line_stops, line_ends, numbers_just}
use Rattle.std.proofs.lemmas.List.{length_push}
use Rattle.std.proofs.lemmas.Iterator.Splits.{YieldsList-from_slice_split}
use Rattle.std.proofs.lemmas.Iterator.Consumers.{YieldsList-turn, YieldsList-end}
use Rattle.lines.proofs.numbers.Goals as goal
use Rattle.lines.proofs.numbers.Goals.{In-Some}

-- this turn's piece is the next of the line's
next_piece : (c : In-Some) → let ps = pieces 32 c.args.line.now in (length c.loop-piece.yielded < length ps) × (c.in-Some.piece.now ≡ get_or ps (length c.loop-piece.yielded) c.in-Some.piece.now)
next_piece c =
    let known = c.loop-piece.invariant in
    YieldsList-turn (YieldsList-from_slice_split _ (λ b. eqb b 32) c.args.line.now known.whole_line known.from_start refl (λ x b q k. search (rules, tests)))
    c.loop-piece.yielded _ c.loop-piece.yielded_by _ _ c.in-Some.piece c.in-Some.is c.next.ensures.steps

pub returns-in_default : goal.returns-in_default
returns-in_default c =
    let e : None ≡ numbers_in c.args.line.now =
    sym
    (line_stops (vec_items c.loop-piece.found)
    _ _ c.in-Some.piece.now (next_piece (goal.at.returns-in_default c).In-Some) (sym c.decimal.ensures.value ∙ c.in_default.is))
    ∙ c.loop-piece.invariant.so_far in
    record { value = e; writes = numbers_just _ _ e }

pub loop-piece-preserved : goal.loop-piece-preserved
loop-piece-preserved c =
    let known = c.loop-piece.invariant in
    let items = c.in_ok-push.ensures.items in
    let turns = length_push c.loop-piece.yielded c.in-Some.piece in
    record {
      whole_line = known.whole_line;
      from_start = known.from_start;
      so_far = (λ i. numbers_on (items i) (drop (turns i) (pieces 32 c.args.line.now)))
          ∙ line_more (vec_items c.loop-piece.found)
          _ _ c.in-Some.piece.now c.in-Some-decimal.number (next_piece (goal.at.loop-piece-preserved c).In-Some) (sym c.decimal.ensures.value ∙ c.in-Some-decimal.is)
          ∙ known.so_far;
    }

pub returns : goal.returns
returns c =
    let known = c.loop-piece.invariant in
    let all =
    YieldsList-end (YieldsList-from_slice_split _ (λ b. eqb b 32) c.args.line.now known.whole_line known.from_start refl (λ x b q k. search (rules, tests)))
    c.loop-piece.yielded _ c.loop-piece.yielded_by _ _ c.in-None.is c.next.ensures.steps in
    let e : Some (vec_items c.loop-piece.found) ≡ numbers_in c.args.line.now = sym (line_ends (vec_items c.loop-piece.found) _ _ all.1) ∙ known.so_far in
    record { value = e; writes = numbers_just _ _ e }
