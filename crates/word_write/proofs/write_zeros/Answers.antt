-- `word_write::write_zeros` meets its contract: what fits stands over the front. Assumes nothing.
use Rattle.std.proofs.Common.{arith, sym, ◌≡◌, ℕ, ◌≤◌, List, ◌++◌, length, replicate, take, drop, length-take-le}
use Rattle.std.proofs.lemmas.List.{length-replicate}
use Rattle.words.specs.Statement.{Leaves}
use Rattle.words.proofs.BufferLaws.{fitted_fits, fitted_short}
use Rattle.word_write.proofs.write_zeros.Goals as goal

-- a front of the wanted length, filled with zeros
front_left : (end count : ℕ) (filled before : List ℕ) → filled ≡ replicate (length (take end before)) 0 → end ≡ count
    → count ≤ length before → Leaves (replicate count 0) before (filled ++ drop end before)
front_left end count filled before zeros same room =
    let all : length (take count before) ≡ count = length-take-le _ _ room in
    rw (zeros, same, all, fitted_fits (replicate count 0) before (rw length-replicate room), length-replicate)

pub returns-then-out-count : goal.returns-then-out-count
returns-then-out-count c = sym (fitted_short _ _ (rw length-replicate c.if-out-count.true))

pub returns : goal.returns
returns c = front_left _ _ _ _ (c.fill.ensures.after (λ y e. e)) (omega arith) c.if-out-count.false
