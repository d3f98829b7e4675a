-- Any text of a GUID is, in its plain form, the text that the GUID prints. Assumes nothing.
use mathlib.Core.Path.{◌≡◌, sym, ◌∙◌, ap}
use mathlib.Core.List.{List}
use Prim.Native.Nat.{ℕ}
use Rattle.numerals.specs.Statement.{hex}
use Rattle.guid.specs.declared.Guid.{Guid}
use Rattle.guid_text.specs.Form.{IsField, IsText}
use Rattle.guid_text.specs.Normal.{shorn, normal}
use Rattle.guid_text.specs.Text.{text_of}
use Rattle.guid_text.proofs.ValueLaws.{shorn_value}
use Rattle.guid_text.proofs.FieldLaws.{digits_dashless, fields_four}

plain_field : (f : List ℕ) (w : ℕ) → IsField f w → shorn f ≡ hex w
plain_field f w is = shorn_value f is.hex is.short ∙ ap hex (sym is.spells)

pub plain_text : (s : List ℕ) (g : Guid) → IsText s g → normal s ≡ text_of g
unfolding text_of
plain_text s g t =
    let cut = fields_four s t.f3 t.f2 t.f1 t.f0 t.joined (digits_dashless t.f3 t.is3.hex) (digits_dashless t.f2 t.is2.hex) (digits_dashless t.f1 t.is1.hex) (digits_dashless t.f0 t.is0.hex) in
    rw (cut, plain_field t.f3 g.w3 t.is3, plain_field t.f2 g.w2 t.is2, plain_field t.f1 g.w1 t.is1, plain_field t.f0 g.w0 t.is0)
