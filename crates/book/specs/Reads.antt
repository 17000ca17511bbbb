-- What a block reads as.
use Rattle.std.specs.Prelude.{ℕ, cond, List, length, Ok, Err, Result, ◌==◌, slice_index}
use Rattle.tables.specs.declared.refusal.Refusal.{Refusal}
use Rattle.tables.specs.declared.refusal.Refusal.TheVariants.{Length, Check, Kind}
use Rattle.book.specs.Layout.{checked, known, most_bytes, least_bytes}
use Rattle.book.specs.declared.block.Block.{Block}
use Rattle.book.specs.declared.block.Block.TheVariants.{Events, Service, Shaping}
use Rattle.book.specs.declared.block.Entries.{Entries}

-- a block by its kind (1 events, 2 service, 3 shaping), its frame and the bytes of its entries
pub record Read : Type 0 where
  pub kind : ℕ
  pub frame : ℕ
  pub most : List ℕ
  pub least : List ℕ

abbrev pub read_as : ℕ → Entries → Read
read_as k e = record { kind = k; frame = e.frame; most = e.most.now; least = e.least.now }

abbrev pub block_read : Block → Read
block_read (Events e) = read_as 1 e
block_read (Service e) = read_as 2 e
block_read (Shaping e) = read_as 3 e

-- 512 bytes taken apart
abbrev pub parted_answer : List ℕ → Result Read Refusal
parted_answer b = cond (known b) (Ok (record { kind = slice_index b 0; frame = slice_index b 1; most = most_bytes b; least = least_bytes b })) (Err Kind)

-- the bytes b as a block, or the refusal
abbrev pub read_answer : List ℕ → Result Read Refusal
read_answer b = cond (length b == 512) (cond (checked b) (parted_answer b) (Err Check)) (Err Length)
