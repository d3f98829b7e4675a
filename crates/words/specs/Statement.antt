-- What each public function promises, by name: the statements that the contracts cite, over the inputs, the result and
-- the lent part at entry and at exit. Assumes nothing.
use Rattle.std.specs.Prelude.{◌≡◌, List, ℕ}
use Rattle.words.specs.Word.{word}
use Rattle.words.specs.Buffer.{fitted}
use Rattle.words.specs.Answer.{Answer, afterwards}

-- r is the word of k bytes at `at`
abbrev pub ReadsWord : ℕ → List ℕ → ℕ → ℕ → Type 0
ReadsWord k s at r = r ≡ word k s at

-- the part that held `before` holds ws over its front, or what it held where ws has not the room
abbrev pub Leaves : List ℕ → List ℕ → List ℕ → Type 0
Leaves ws before after = after ≡ fitted ws before

-- The shape of a statement whose function answers in document 01's terms and is lent buffers: the result r means this
-- answer, and each buffer holds afterwards ws over its front where that is accepted, else what it held.

abbrev pub Means : {R : Type 0} → (R → Answer) → Answer → R → Type 0
Means paper answer r = paper r ≡ answer

abbrev pub Holds : Answer → List ℕ → List ℕ → List ℕ → Type 0
Holds answer ws before after = after ≡ afterwards answer ws before

-- a statement that leaves nothing open: any two results that meet it are equal
abbrev pub OneResult : {R : Type 0} → (R → Type 0) → Type 0
OneResult {R} P = (r r' : R) → P r → P r' → r ≡ r'
