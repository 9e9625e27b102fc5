-- The image: a device that lies in bytes.
-- Assumes nothing.
use Rattle.std.specs.Prelude.{ℕ, ◌+◌, ◌*◌, ◌/◌, min, true, cond, List, ◌++◌, map, length, take, drop, Ok, Err, Result, nat_lt, Some}
use Rattle.std.specs.List.{range_with_len}
use Rattle.device.specs.declared.DeviceError.{DeviceError}
use Rattle.device.specs.declared.DeviceError.TheVariants.{Outside}
use Rattle.device.specs.Disk.{Disk}

-- as many blocks as there are whole ones, at most 65,535
abbrev pub blocks_in : List ℕ → ℕ
blocks_in bytes = min (length bytes / 512) 65535

-- the bytes of block b
abbrev pub block_in : List ℕ → ℕ → List ℕ
block_in bytes b = take 512 (drop (512 * b) bytes)

-- the bytes with new ones in block b
abbrev pub with_block : List ℕ → ℕ → List ℕ → List ℕ
with_block bytes b new = take (512 * b) bytes ++ (new ++ drop (512 * b + 512) bytes)

-- what a write to block b answers: it is never lost
abbrev pub answer_in : List ℕ → ℕ → Result (Unit {0}) DeviceError
answer_in bytes b = cond (nat_lt b (blocks_in bytes)) (Ok tt) (Err Outside)

-- the bytes after a write to block b: those behind the last block never change
abbrev pub written_in : List ℕ → ℕ → List ℕ → List ℕ
written_in bytes b new = cond (nat_lt b (blocks_in bytes)) (with_block bytes b new) bytes

-- the device that lies in the bytes: always online
unfoldable pub disk_in : List ℕ → Disk
disk_in bytes = record {
  entries = map (λ b. Some (block_in bytes b)) (range_with_len 0 (blocks_in bytes));
  online = true;
}
