-- `crc64_eight::fold_eight` meets its contract: the words, and then the tail. Assumes nothing.
use Rattle.std.proofs.Common.{◌≡◌, List, ℕ, ◌*◌, ◌/◌, ◌-◌, ◌∙◌, ap, arith, length, take, drop, length-drop}
use Rattle.std.proofs.lemmas.List.{take_all}
use Rattle.crc64.specs.Table.{fold_over}
use Rattle.crc64_eight.proofs.Lending.{tailed}
use Rattle.crc64_eight.proofs.fold_eight.Goals as goal

pub returns : goal.returns
returns c =
    let from : ℕ = length c.args.bytes.now / 8 * 8 in
    let rest : List ℕ = drop from c.args.bytes.now in
    let all : take (length c.args.bytes.now - from) rest ≡ rest = take_all _ rest (omega (arith, length-drop from c.args.bytes.now)) in
    tailed c.args.tables.now c.args.register c.args.bytes.now c.fold_words.ensures
    (c.fold_bytes.ensures ∙ ap (λ (s : List ℕ). fold_over c.args.tables.now c.fold_words.result s) all)
