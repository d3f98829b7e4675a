-- The name of each field is that of the documents. Assumes nothing.
use Rattle.finding_name.proofs.name.Goals as goal

pub returns-in-FixedHeader : goal.returns-in-FixedHeader
returns-in-FixedHeader c = rw c.in-FixedHeader.is

pub returns-in-Signature : goal.returns-in-Signature
returns-in-Signature c = rw c.in-Signature.is

pub returns-in-TypeCode : goal.returns-in-TypeCode
returns-in-TypeCode c = rw c.in-TypeCode.is

pub returns-in-FixedChecksum : goal.returns-in-FixedChecksum
returns-in-FixedChecksum c = rw c.in-FixedChecksum.is

pub returns-in-PartCount : goal.returns-in-PartCount
returns-in-PartCount c = rw c.in-PartCount.is

pub returns-in-Headers : goal.returns-in-Headers
returns-in-Headers c = rw c.in-Headers.is

pub returns-in-VariableChecksum : goal.returns-in-VariableChecksum
returns-in-VariableChecksum c = rw c.in-VariableChecksum.is

pub returns-in-PartSize : goal.returns-in-PartSize
returns-in-PartSize c = rw c.in-PartSize.is

pub returns-in-Whole : goal.returns-in-Whole
returns-in-Whole c = rw c.in-Whole.is

pub returns-in-PartChecksum : goal.returns-in-PartChecksum
returns-in-PartChecksum c = rw c.in-PartChecksum.is

pub returns-in-RowCount : goal.returns-in-RowCount
returns-in-RowCount c = rw c.in-RowCount.is

pub returns-in-ValueCount : goal.returns-in-ValueCount
returns-in-ValueCount c = rw c.in-ValueCount.is

pub returns-in-ValueHeader : goal.returns-in-ValueHeader
returns-in-ValueHeader c = rw c.in-ValueHeader.is

pub returns-in-Word : goal.returns-in-Word
returns-in-Word c = rw c.in-Word.is

pub returns-in-Blob : goal.returns-in-Blob
returns-in-Blob c = rw c.in-Blob.is

pub returns-in-Length : goal.returns-in-Length
returns-in-Length c = rw c.in-Length.is

pub returns-in-TrailingBytes : goal.returns-in-TrailingBytes
returns-in-TrailingBytes c = rw c.in-TrailingBytes.is

pub returns-in-Aggregate : goal.returns-in-Aggregate
returns-in-Aggregate c = rw c.in-Aggregate.is

pub returns-in-Padding : goal.returns-in-Padding
returns-in-Padding c = rw c.in-Padding.is
