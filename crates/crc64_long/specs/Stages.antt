-- The sizes of the window, for private contracts. Nobody has to believe them. Assumes nothing.
use Rattle.std.specs.Prelude.{ℕ, ◌+◌}
use Rattle.crc64_sparse.specs.Stages.{span}

-- the bytes that leave before the window is moved
abbrev pub block_size : ℕ
block_size = 4096

abbrev pub window_size : ℕ
window_size = span + block_size
