-- Each half is a low word and a high word. Assumes nothing.
use Rattle.std.proofs.Common.{rules}
use Rattle.guid.proofs.WireLaws.{half_of_words}
use Rattle.guid.proofs.Guid.halves.Goals as goal

pub returns : goal.returns
returns c =
    let halves = half_of_words c.args.self (record { fits0 = search rules; fits1 = search rules; fits2 = search rules; fits3 = search rules }) in
    rw (halves.0, halves.1)
