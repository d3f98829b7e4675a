-- `crc64_fast::write_low` meets its contract: the lowest bytes are the first that std writes. Assumes nothing.
use Rattle.std.proofs.Common.{◌≡◌, ◌∙◌, ap, take}
use Rattle.words.specs.Word.{bytes_of}
use Rattle.words.proofs.WordLaws.{length_bytes_of}
use Rattle.word_write.proofs.WordBytes.{eight, take_bytes_of}
use Rattle.crc64_fast.proofs.write_low.Goals as goal

pub returns : goal.returns
returns c =
    let low : take c.args.count c.to_le_bytes.result ≡ bytes_of c.args.count c.args.word =
    ap (take c.args.count) (c.to_le_bytes.ensures ∙ eight c.args.word) ∙ take_bytes_of c.args.count 8 c.args.word c.requires.0 in
    rw (c.copy_from_slice.ensures.after, low, length_bytes_of)
