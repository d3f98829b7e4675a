-- `no_room` meets its contract: its number's word is the room's. Assumes nothing.
use mathlib.Core.Path.{◌∙◌, ap}
use mathlib.Core.List.{[], ◌∷◌}
use Prim.Native.Nat.{ℕ}
use Rattle.words.specs.Paper.{outcome_of}
use borrow.Author.Rules.{rules}
use Rattle.words.proofs.outcome.no_room.Statement.{statement}
use Rattle.words.proofs.outcome.no_room.Tie as tie

room_number-requires : tie.Need-room_number-requires
room_number-requires c κs = search rules

refusal-requires : tie.Need-refusal-requires
refusal-requires c κs = search rules

returns : tie.Need-returns
returns c =
    let short = c.args.short in
    c.refusal.ensures
    ∙ ap (λ (which : ℕ). outcome_of 2 17 0 (which ∷ short.needed ∷ short.given ∷ [])) c.room_number.ensures

pub no_room_spec : {M : Type 1} → statement M
no_room_spec = tie.close (tie.spec room_number-requires refusal-requires returns)
