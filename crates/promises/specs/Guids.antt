-- GUIDs as text, over the functions' own statements: what `parse` accepts, where and why it refuses, what A5 changed,
-- what comes back of what `print` wrote, and which texts are one GUID. Document 01, "GUID text"; document 02, A5.
-- Assumes nothing.
use Rattle.std.specs.Prelude.{ℕ, suc, ◌≤◌, ◌<◌, List, ◌⊎◌, ◌≡◌, length, get_or, take, Result, Ok, Err}
use Rattle.words.specs.Text.{digit_of}
use Rattle.words.specs.Word.{Bytes}
use Rattle.places.specs.Place.{Mendable}
use Rattle.guid.specs.declared.Guid.{Guid}
use Rattle.guid_text.specs.declared.BadGuid.{BadGuid}
use Rattle.guid_text.specs.declared.Reason.{Reason}
use Rattle.guid_text.specs.declared.Reason.TheVariants.{Empty, TooLong, NotHex, FieldCount}
use Rattle.guid.specs.Guid.{Fitting}
use Rattle.guid_text.specs.Fields.{dash}
use Rattle.guid_text.specs.Split.{fields}
use Rattle.guid_text.specs.Text.{text_of}
use Rattle.guid_text.specs.Form.{IsText, Accepted}
use Rattle.guid_text.specs.Reason.{field_number, bytes_before}
use Rattle.guid_text.specs.Normal.{normal}
use Rattle.guid.specs.Statement.{ReadsBytes}
use Rattle.guid_text.specs.Statement.{Prints, Parses}
use Rattle.guid_text.specs.WithPlus.{plus, IsTextBefore, Plusless}

-- `parse` answers this GUID exactly where the text is four fields between dashes that spell its words
abbrev pub ParseAcceptsExactly : Type 0
ParseAcceptsExactly =
    (s : List ℕ) (r : Result Guid BadGuid) (g : Guid) → Parses s r → (r ≡ Ok g → IsText s g) × (IsText s g → r ≡ Ok g)

-- each byte of an accepted text is a dash or a hex digit: a plus or white space, wherever it stands, is neither
abbrev pub AcceptedBytes : Type 0
AcceptedBytes =
    (s : List ℕ) (g : Guid) (i : ℕ) → Parses s (Ok g) → i < length s
    → (get_or s i 0 ≡ dash) ⊎ (digit_of (get_or s i 0) ≤ 15)

-- Where it refuses at p, p is in the text or its length; some accepted text begins with the bytes before p; and, unless
-- p is the length, none begins with these and the byte at p.
abbrev pub ParsePlace : Type 0
ParsePlace =
    (s : List ℕ) (p : ℕ) (reason : Reason) → Parses s (Err record { position = p; reason = reason })
    → (p ≤ length s) × Mendable Accepted (take p s) × (p < length s → Mendable Accepted (take (suc p) s) → ⊥)

-- The place is byte 35 at the latest, and each byte before it is a dash or a hex digit, one column wide: a caret under
-- the text stands as many columns in.
abbrev pub PlaceShows : Type 0
PlaceShows =
    (s : List ℕ) (p : ℕ) (reason : Reason) → Parses s (Err record { position = p; reason = reason })
    → (p ≤ 35) × ((i : ℕ) → i < p → (get_or s i 0 ≡ dash) ⊎ (digit_of (get_or s i 0) ≤ 15))

-- what each reason says of the place
abbrev pub Why : List ℕ → ℕ → Reason → Type 0
Why s p Empty = (bytes_before s p ≡ 0) × ((get_or s p 0 ≡ dash) ⊎ (p ≡ length s))
Why s p TooLong = (bytes_before s p ≡ 8) × (p < length s) × (get_or s p 0 ≡ dash → ⊥)
Why s p NotHex = (bytes_before s p < 8) × (p < length s) × (get_or s p 0 ≡ dash → ⊥) × (15 < digit_of (get_or s p 0))
Why s p FieldCount =
    (0 < bytes_before s p)
    × (((get_or s p 0 ≡ dash) × (field_number s p ≡ 4)) ⊎ ((p ≡ length s) × (field_number s p < 4)))

-- where it refuses, it gives exactly the reason that is true of the place
abbrev pub ParseReason : Type 0
ParseReason =
    (s : List ℕ) (p : ℕ) (reason other : Reason) → Parses s (Err record { position = p; reason = reason })
    → (reason ≡ other → Why s p other) × (Why s p other → reason ≡ other)

-- A text in which no field begins with a plus is accepted, and read, as by document 01.
abbrev pub WithoutPlusAsBefore : Type 0
WithoutPlusAsBefore =
    (s : List ℕ) (r : Result Guid BadGuid) (g : Guid) → Plusless (fields s) → Parses s r
    → (r ≡ Ok g → IsTextBefore s g) × (IsTextBefore s g → r ≡ Ok g)

-- Any other text that document 01 accepted is refused at its first plus, as a byte that is not a hex digit.
abbrev pub PlusRefused : Type 0
PlusRefused =
    (s : List ℕ) (g : Guid) (p : ℕ) (reason : Reason) → IsTextBefore s g → Parses s (Err record { position = p; reason = reason })
    → (reason ≡ NotHex) × (get_or s p 0 ≡ plus) × ((i : ℕ) → i < p → (get_or s i 0 ≡ plus → ⊥))

-- There are such texts: the premise of the first of these two is needed.
abbrev pub PlusMatters : Type 0
PlusMatters = (s : List ℕ) × (g : Guid) × IsTextBefore s g × ((r : Result Guid BadGuid) → Parses s r → (r ≡ Ok g → ⊥))

-- what `print` wrote, `parse` reads back
abbrev pub PrintThenParse : Type 0
PrintThenParse =
    (g : Guid) (before : List ℕ) (n : ℕ) (after : List ℕ) (r : Result Guid BadGuid)
    → Fitting g → Prints g before (Ok n) after → Parses (take n after) r → r ≡ Ok g

-- a word over 32 bits is not read back from its eight digits: the premise is needed
abbrev pub FittingMatters : Type 0
FittingMatters = (g : Guid) × ((r : Result Guid BadGuid) → Parses (text_of g) r → (r ≡ Ok g → ⊥))

-- so it does for every id that `from_bytes` read, that of a packet among them
abbrev pub ReadPrintParse : Type 0
ReadPrintParse =
    (bytes : List ℕ) (at : ℕ) (g : Guid) (before : List ℕ) (n : ℕ) (after : List ℕ) (r : Result Guid BadGuid)
    → Bytes bytes → ReadsBytes bytes at g → Prints g before (Ok n) after → Parses (take n after) r → r ≡ Ok g

-- a text that `parse` reads as a GUID differs from what the GUID prints only in case and leading zeros
abbrev pub ReadsAsPrinted : Type 0
ReadsAsPrinted = (s : List ℕ) (g : Guid) → Parses s (Ok g) → normal s ≡ text_of g

-- so two accepted texts are one GUID exactly where they differ only in these
abbrev pub OneGuid : Type 0
OneGuid =
    (s t : List ℕ) (g h : Guid) → Parses s (Ok g) → Parses t (Ok h)
    → (g ≡ h → normal s ≡ normal t) × (normal s ≡ normal t → g ≡ h)
