-- The journal header: its bytes, and what they say.
-- Assumes nothing.
use Rattle.std.specs.Prelude.{ℕ, Bool, cond, ◌&&◌, List, [], ◌∷◌, ◌++◌, take, drop, Some, None, Ok, Err, codes, Option, Result, ◌==◌, nat_le, nat_lt, slice_index}
use Rattle.std.specs.Str.{bytes_eq}
use Rattle.octets.specs.Numbers.{little, number_at}
use Rattle.octets.specs.Zeros.{zeros, every, blank}
use Rattle.fault.specs.declared.Fault.{Fault}
use Rattle.fault.specs.declared.Damage.TheVariants.{Mark}
use Rattle.fault.specs.Refusals.{not_free, not_register}
use Rattle.journal.specs.declared.headers.Header.{Header}
use Rattle.journal.specs.declared.headers.Header.TheVariants as header
use Rattle.journal.specs.declared.headers.Pending.{Pending}
use Rattle.journal.specs.declared.headers.PendingCall.{PendingCall}
use Rattle.journal.specs.declared.headers.PendingCall.TheVariants.{Store, Take}
use Rattle.journal.specs.declared.headers.fields.CallFields.{CallFields}
use Rattle.journal.specs.declared.headers.fields.Fields.{Fields}
use Rattle.journal.specs.declared.headers.fields.OutOfRange.{OutOfRange}
use Rattle.device.specs.Disk.{Entry}

-- ---- bytes

-- a header that nothing is pending in
unfoldable pub free_bytes : List ℕ
free_bytes = codes "FREE" ++ zeros 508

abbrev pub joined : List (List ℕ) → List ℕ
joined [] = []
joined (bs ∷ rest) = bs ++ joined rest

abbrev pub block_of : Fields → ℕ → ℕ
block_of f i = slice_index f.blocks i

-- a header with these fields
unfoldable pub field_bytes : Fields → List ℕ
field_bytes f = joined (
    codes "JRNL"
    ∷ (f.call.letter ∷ 0 ∷ [])
    ∷ little 2 f.number
    ∷ little 4 f.call.width
    ∷ little 4 f.call.draw
    ∷ little 8 f.calls
    ∷ little 8 f.words
    ∷ (f.call.used ∷ zeros 7)
    ∷ little 2 (block_of f 0)
    ∷ little 2 (block_of f 1)
    ∷ little 2 (block_of f 2)
    ∷ little 2 (block_of f 3)
    ∷ []
    ) ++ zeros 464

-- the letter S for a store and T for a take, which has no draw
abbrev pub call_fields : PendingCall → CallFields
call_fields (Store width draw used) = record { letter = 83; width = width; draw = draw; used = used }
call_fields Take = record { letter = 84; width = 0; draw = 0; used = 0 }

abbrev pub fields_for : Pending → Fields
fields_for p = record {
  call = call_fields p.call;
  number = p.number;
  calls = p.calls;
  words = p.words;
  blocks = p.blocks;
}

-- the header of a pending call
abbrev pub pending_bytes : Pending → List ℕ
pending_bytes p = field_bytes (fields_for p)

-- ---- reading

-- zeros in every byte that no field has
abbrev pub reserved_zero : List ℕ → Bool
reserved_zero bs = slice_index bs 5 == 0 && (every blank (take 7 (drop 33 bs)) && every blank (take 464 (drop 48 bs)))

-- the mark of a pending header, with those zeros
abbrev pub marked : List ℕ → Bool
marked bs = bytes_eq (take 4 bs) (codes "JRNL") && reserved_zero bs

abbrev pub fields_of : List ℕ → Fields
fields_of bs = record {
  call = record { letter = slice_index bs 4; width = number_at bs 8 4; draw = number_at bs 12 4; used = slice_index bs 32 };
  number = number_at bs 6 2;
  calls = number_at bs 16 8;
  words = number_at bs 24 8;
  blocks = number_at bs 40 2 ∷ number_at bs 42 2 ∷ number_at bs 44 2 ∷ number_at bs 46 2 ∷ [];
}

-- slots lie in blocks 14 to 77, and the stock in 6 to 13
abbrev pub slot_block : ℕ → Bool
slot_block b = nat_le 14 b && nat_le b 77

abbrev pub stock_block : ℕ → Bool
stock_block b = nat_le 6 b && nat_le b 13

-- two slot blocks, a stock block and the head
abbrev pub lawful_blocks : List ℕ → Bool
lawful_blocks bs = slot_block (slice_index bs 0) && (slot_block (slice_index bs 1) && (stock_block (slice_index bs 2) && slice_index bs 3 == 0))

abbrev pub store_of : CallFields → Option PendingCall
store_of f =
    cond (nat_le 1 f.width && (nat_le f.width 32768 && (nat_lt f.draw f.width && nat_le f.used 64)))
    (Some (Store f.width f.draw f.used)) None

abbrev pub take_of : CallFields → Option PendingCall
take_of f = cond (f.width == 0 && (f.draw == 0 && f.used == 0)) (Some Take) None

-- the call, if its fields are in their ranges
abbrev pub call_of : CallFields → Option PendingCall
call_of f = cond (f.letter == 83) (store_of f) (cond (f.letter == 84) (take_of f) None)

abbrev pub with_call : Fields → Option PendingCall → Option Pending
with_call f None = None
with_call f (Some c) = Some (record { call = c; number = f.number; calls = f.calls; words = f.words; blocks = f.blocks })

-- what is pending, if all fields are in their ranges
abbrev pub pending_of : Fields → Option Pending
pending_of f = cond (nat_lt f.number 32768 && lawful_blocks f.blocks) (with_call f (call_of f.call)) None

abbrev pub or_unlawful : Option Pending → Header
or_unlawful None = header.Unlawful
or_unlawful (Some p) = header.Pending p

abbrev pub bytes_header : List ℕ → Header
bytes_header bs = cond (bytes_eq bs free_bytes) header.Free (cond (marked bs) (or_unlawful (pending_of (fields_of bs))) header.Other)

-- what the entry of the header's block says
unfoldable pub header_of : Entry → Header
header_of None = header.Unreadable
header_of (Some bs) = bytes_header bs

-- a free header goes on; one that is pending or unreadable is refused, and any other is not a register's
abbrev pub free_or_refused : Header → Result (Unit {0}) Fault
free_or_refused header.Free = Ok tt
free_or_refused header.Unreadable = Err not_free
free_or_refused (header.Pending p) = Err not_free
free_or_refused header.Unlawful = Err not_free
free_or_refused header.Other = Err (not_register 1 Mark)

-- a field that holds what no pending call has there
abbrev pub out_of_range : OutOfRange
out_of_range = record {}
