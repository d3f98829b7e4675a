-- The reader as a machine: its state is what `parse` holds. Assumes nothing.
use Prim.Native.Nat.{ℕ, ◌+◌, ◌-◌, ◌*◌}
use mathlib.Core.List.{[], ◌∷◌}
use Rattle.words.specs.Decide.{pick, decide, ◌⇒◌, ◌<?◌, ◌=?◌}
use Rattle.places.specs.Machine.{Move, on, off, Machine}
use Rattle.guid.specs.declared.Guid.{Guid}
use Rattle.guid.specs.Guid.{guid_of}
use Rattle.guid_text.specs.Fields.{dash}
use Rattle.words.specs.Text.{digit_of}
use Rattle.guid_text.specs.declared.Reason.{Reason}
use Rattle.guid_text.specs.declared.Reason.TheVariants.{Empty, TooLong, NotHex, FieldCount}

-- so many fields more are to end at a dash; of this one so many bytes were read; the words so far
pub record State : Type 0 where
  pub left : ℕ
  pub count : ℕ
  pub w0 : ℕ
  pub w1 : ℕ
  pub w2 : ℕ
  pub w3 : ℕ

abbrev pub st : ℕ → ℕ → ℕ → ℕ → ℕ → ℕ → State
st left count w0 w1 w2 w3 = record { left = left; count = count; w0 = w0; w1 = w1; w2 = w2; w3 = w3 }

abbrev pub start : State
start = st 3 0 0 0 0 0

abbrev pub dashed : State → Move State Reason
dashed q = decide (q.count =? 0 ⇒ off Empty ∷ q.left =? 0 ⇒ off FieldCount ∷ []) (on (st (q.left - 1) 0 0 q.w0 q.w1 q.w2))

abbrev pub other : State → ℕ → Move State Reason
other q b =
    decide (7 <? q.count ⇒ off TooLong ∷ 15 <? digit_of b ⇒ off NotHex ∷ []) (on (st q.left (q.count + 1) (q.w0 * 16 + digit_of b) q.w1 q.w2 q.w3))

abbrev pub closed : State → Move Guid Reason
closed q = decide (q.count =? 0 ⇒ off Empty ∷ 0 <? q.left ⇒ off FieldCount ∷ []) (on (guid_of q.w0 q.w1 q.w2 q.w3))

abbrev pub walk : Machine State Guid Reason
walk = record { step = λ q b. pick (b =? dash) (dashed q) (other q b); close = closed }
