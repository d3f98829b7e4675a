-- `text::put_wanted` meets its contract. Assumes nothing.
use Rattle.why_text.proofs.text.put_wanted.Goals as goal

pub returns-in-Number : goal.returns-in-Number
returns-in-Number c = rw c.in-Number.is c.put_field.ensures.0

pub returns-in-LiveTypes : goal.returns-in-LiveTypes
returns-in-LiveTypes c = rw c.in-LiveTypes.is c.put_bytes.ensures

pub returns-in-ValueTypes : goal.returns-in-ValueTypes
returns-in-ValueTypes c = rw c.in-ValueTypes.is c.put_bytes-in-ValueTypes.ensures
