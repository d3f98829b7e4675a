-- The kinds that the types of values fall into. Document 01: "Null has no payload, 3 to 6 one 8-byte word, 16 to 18 the
-- bytes and padding". Assumes nothing.
use Rattle.std.specs.Prelude.{ℕ, [], ◌∷◌}
use Rattle.words.specs.Decide.{◌⇒◌, decide, ◌=?◌}
use Rattle.wire.specs.Layout.{null_type, scalar, blob}
use Rattle.wire.specs.declared.kind.Kind.{Kind}
use Rattle.wire.specs.declared.kind.Kind.TheVariants.{Null, Scalar, Blob, Unknown}

unfoldable pub kind_of : ℕ → Kind
kind_of type = decide (type =? null_type ⇒ Null ∷ scalar type ⇒ Scalar ∷ blob type ⇒ Blob ∷ []) Unknown
