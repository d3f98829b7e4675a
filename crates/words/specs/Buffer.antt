-- Stretches of a list, and what a lent buffer holds once something was written at its front.
-- Document 01: writing fills the output from its front and leaves the rest. Assumes nothing.
use Rattle.std.specs.Prelude.{ℕ, List, ◌++◌, leb, length, take, drop}
use Rattle.words.specs.Decide.{pick}

-- the n elements of s from `at` on
abbrev pub stretch : {A : Type 0} → List A → ℕ → ℕ → List A
stretch s at n = take n (drop at s)

-- xs with ws in the place of as many elements at its front
abbrev pub over : {A : Type 0} → List A → List A → List A
over ws xs = ws ++ drop (length ws) xs

-- what a writer leaves of a buffer xs: ws over its front where it has the room, else xs as it was
unfoldable pub fitted : {A : Type 0} → List A → List A → List A
fitted ws xs = pick (leb (length ws) (length xs)) (over ws xs) xs
