-- What rules 1 and 3 of refusal 18 give: words that leave room for links. Assumes nothing.
use mathlib.Core.Path.{◌≡◌}
use mathlib.Core.Logic.{⊎_elim}
use mathlib.Core.List.{List}
use Prim.Native.Nat.{ℕ, ◌+◌, ◌*◌, ◌/◌, ◌%◌, ◌^◌, ◌<◌, ◌≤◌}
use native.Mathlib.Omega.{arith}
use lib.ListN.{length, get_or, get_or-eq_default}
use Rattle.words.proofs.DecideLaws.{le_or_gt}
use Rattle.wire_check.specs.Stages.{Good}
use Rattle.pack_pairs.proofs.RuleLaws.{entry_fair}
use Rattle.pack_links.specs.Stages.{Spare}
use Rattle.wire.specs.Layout.{entry_words}

module _ (area values : List ℕ) (whole : length values % entry_words ≡ 0) (good : Good area values) where
  small : (s : ℕ) → s % entry_words < 3 → get_or values s 0 < 65_536
  small s over =
      ⊎_elim (λ (past : length values ≤ s). rw (get_or-eq_default values 0 past) (omega arith))
      (λ (h : s < length values).
      let it = entry_fair area values whole good (s / entry_words) (omega arith) in
      ⊎_elim
      (λ (low : s % entry_words ≤ 0). let place : entry_words * (s / entry_words) ≡ s = omega arith in rw place at it.id_small)
      (λ (some : 0 < s % entry_words).
      ⊎_elim (λ (low : s % entry_words ≤ 1). let place : entry_words * (s / entry_words) + 1 ≡ s = omega arith in omega (arith, rw place at it.type_small))
      (λ (high : 1 < s % entry_words). let place : entry_words * (s / entry_words) + 2 ≡ s = omega arith in omega (arith, rw place at it.flag_small))
      (le_or_gt (s % entry_words) 1))
      (le_or_gt (s % entry_words) 0))
      (le_or_gt (length values) s)

  pub good_spare : length values < 2 ^ 48 → Spare values
  good_spare few = record { small = small; few = few; whole = whole }
