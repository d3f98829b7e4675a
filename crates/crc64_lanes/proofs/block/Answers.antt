-- `crc64_lanes::block` meets its contract: a word more. Assumes nothing.
use Rattle.std.proofs.Common.{ℕ, List, ◌+◌, ◌*◌, ◌-◌, ◌<◌, ◌≡◌, ◌≤◌, ◌∙◌, ap, arith, length, length-set, rules}
use borrow.Rule.Slice.PartMut.{put_mid}
use Rattle.words.specs.Word.{Bytes}
use Rattle.words.proofs.WordLaws.{word_lent}
use Rattle.crc64_lanes.proofs.Braid.{one_lane}
use Rattle.crc64_lanes.proofs.Copied.{next_put}
use Rattle.crc64_lanes.proofs.block.Goals as goal

-- where the next word goes
within : (at l o m : ℕ) → l < 4 → at + 32 ≤ m → o ≡ m → at + 8 * l + 8 ≤ o
within at l o m few there same = omega arith

pub loop-l-preserved : goal.loop-l-preserved
loop-l-preserved c =
    let a = c.args in
    let s : List ℕ = a.bytes.now in
    let at = c.loop-l in
    let bytes : Bytes s = λ n. (c.type_inv.bytes n).fits in
    let loaded = word_lent 8 s (a.i + 8 * at.l) c.read_u64-word.ensures in
    let to : ℕ = a.at + 8 * at.l in (
      length-set at.lanes at.l c.far.result ∙ at.invariant.0,
      one_lane at.lanes s a.i at.l at.invariant.0 (search rules) bytes c.requires.1 loaded c.far.ensures at.invariant.1,
      search rules,
      λ e before f.
          next_put s a.i at.l to before at.out (ap (λ (n : ℕ). n + 8 * at.l) e) (at.invariant.3 e before f) loaded bytes (search rules)
          (within a.at at.l (length at.out) (length a.out.now) (search rules) c.requires.2 at.invariant.2)
          (ap (put_mid to (to + 8 - to) at.out) c.write_u64.ensures),
    )
