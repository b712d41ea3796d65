-- No two lists are told alike by the running totals. Assumes nothing.
use Rattle.std.proofs.Common.{◌≡◌, ℕ, ◌+◌, List, length, sym, ◌∙◌, subst, arith}
use Rattle.std.proofs.lemmas.List.{ext_get_or}
use Rattle.sharing.specs.Rule.{TheOne}
use Rattle.sharing.specs.RunningTotal.{running, ByRunningTotals}
use Rattle.sharing.specs.RunningLaws.{sum_more, share_is, length_of_running, by_running_totals}

pub the_one_by_running_totals : (a : ℕ) (ws shares : List ℕ) → shares ≡ running a ws → TheOne (ByRunningTotals a ws) (length ws) shares
the_one_by_running_totals a ws shares e = subst (TheOne (ByRunningTotals a ws) (length ws)) (sym e) (record {
  told = by_running_totals a ws;
  no_other = λ other long told.
      ext_get_or 0 other (running a ws) (long ∙ sym (length_of_running a ws))
      (λ k h. omega (arith, sum_more other k, told k, told (k + 1), share_is a ws k));
})
