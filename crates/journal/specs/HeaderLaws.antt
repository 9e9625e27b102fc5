-- The laws of the journal header: there and back.
-- Assumes nothing.
use Rattle.std.specs.Prelude.{◌≡◌, ℕ, ◌^◌, ◌<◌, ◌≤◌, List, length, slice_index, slice_index_or, Some}
use Rattle.std.specs.List.{AllByRecursion}
use Rattle.journal.specs.declared.headers.Header.TheVariants as header
use Rattle.journal.specs.declared.headers.Pending.{Pending}
use Rattle.journal.specs.declared.headers.PendingCall.{PendingCall}
use Rattle.journal.specs.declared.headers.PendingCall.TheVariants.{Store, Take}
use Rattle.journal.specs.Header.{free_bytes, pending_bytes, header_of}

abbrev pub LawfulCall : PendingCall → Type 0
LawfulCall (Store width draw used) = (1 ≤ width) × (width ≤ 32768) × (draw < width) × (used ≤ 64)
LawfulCall Take = Unit {0}

abbrev pub Within : ℕ → ℕ → ℕ → Type 0
Within low high n = (low ≤ n) × (n ≤ high)

-- two slot blocks, a stock block and the head
pub record LawfulBlocks (bs : List ℕ) : Type 0 where
  pub four : length bs ≡ 4
  pub first : Within 14 77 (slice_index bs 0)
  pub second : Within 14 77 (slice_index bs 1)
  pub third : Within 6 13 (slice_index bs 2)
  pub fourth : slice_index_or bs 3 0 ≡ 0

-- what a pending call may hold
pub record Lawful (p : Pending) : Type 0 where
  pub call : LawfulCall p.call
  pub number : p.number < 32768
  pub calls : p.calls < 2 ^ 64
  pub words : p.words < 2 ^ 64
  pub blocks : LawfulBlocks p.blocks

-- what is written as a header fills its block, and reads as that header
pub record HeadersReadBack : Type 0 where
  pub free_sized : length free_bytes ≡ 512
  pub pending_sized : (p : Pending) → length (pending_bytes p) ≡ 512
  pub free : header_of (Some free_bytes) ≡ header.Free
  pub pending : (p : Pending) → Lawful p → header_of (Some (pending_bytes p)) ≡ header.Pending p

-- what reads as a header is exactly what is written as it
pub record HeadersAreExact : Type 0 where
  pub free : (bs : List ℕ) → header_of (Some bs) ≡ header.Free → bs ≡ free_bytes
  pub pending :
      (bs : List ℕ) (p : Pending) → length bs ≡ 512 → AllByRecursion (λ b. b < 256) bs → header_of (Some bs) ≡ header.Pending p →
      Lawful p × (bs ≡ pending_bytes p)
