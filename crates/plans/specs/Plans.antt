-- What each call on a register finds on its disk, what it answers, and what it writes.
-- Assumes nothing.
use Rattle.std.specs.Prelude.{ℕ, ◌+◌, ◌-◌, ◌/◌, Bool, cond, not, ◌&&◌, List, [], ◌∷◌, ◌++◌, map, length, drop, Some, None, Ok, Err, Option, Result, ◌==◌, nat_le, nat_lt}
use Rattle.std.specs.List.{range_with_len}
use Rattle.std.specs.Option.{ok_or, option_map}
use Rattle.fault.specs.Refusals.{offline, too_few_blocks, not_register, number_too_large, in_stock, not_in_stock, last_call, no_draw, bad_capacity, too_short}
use Rattle.fault.specs.declared.Damage.TheVariants as damage
use Rattle.fault.specs.declared.Fault.{Fault}
use Rattle.device.specs.Disk.{Disk, blocks, entry_at}
use Rattle.octets.specs.Zeros.{zeros}
use Rattle.words.specs.Draws.{draw_of}
use Rattle.words.specs.declared.draws.Drawn.{Drawn}
use Rattle.pairing.specs.Ranges.{no_counts}
use Rattle.pairing.specs.Reservoir.{Reservoir, store, taken, width, effect, filled_by, slot_of}
use Rattle.pairing.specs.Steps.{counts_of}
use Rattle.journal.specs.Header.{free_bytes, pending_bytes, header_of, free_or_refused}
use Rattle.journal.specs.Writes.{write_at, replay_writes, commit_writes}
use Rattle.journal.specs.declared.Write.{Write}
use Rattle.journal.specs.declared.headers.Header.{Header}
use Rattle.journal.specs.declared.headers.Header.TheVariants as header
use Rattle.journal.specs.declared.headers.Pending.{Pending}
use Rattle.journal.specs.declared.headers.PendingCall.{PendingCall}
use Rattle.journal.specs.declared.headers.PendingCall.TheVariants as pending
use Rattle.layout.specs.Layout.{head_of, content, joined}
use Rattle.layout.specs.Reading.{decode, bytes_of, block_fault, first_of, unless_fault}
use Rattle.plans.specs.declared.Finished.{Finished}
use Rattle.plans.specs.declared.Finished.TheVariants as finished
use Rattle.plans.specs.declared.Opened.{Opened}
use Rattle.plans.specs.Views.{viewed}

-- ---- plans

-- what a call answers when it is done, and the writes that it makes
pub record Plan (A : Type 0) : Type 0 where
  pub answer : A
  pub writes : List Write

abbrev pub and_then : {A B : Type 0} → Result A Fault → (A → Result B Fault) → Result B Fault
and_then (Ok a) next = next a
and_then (Err f) next = Err f

-- the fault where the test holds
abbrev pub refused_if : {A : Type 0} → Bool → Fault → Result A Fault → Result A Fault
refused_if test f later = cond test (Err f) later

-- the plan with another answer
abbrev pub answering : {A B : Type 0} → (A → B) → Result (Plan A) Fault → Result (Plan B) Fault
answering f plan = and_then plan (λ p. Ok (record { answer = f p.answer; writes = p.writes }))

-- ---- Make

abbrev pub zero_block : ℕ → Write
zero_block b = write_at b (zeros 512)

-- the head as zeros, a free header, zeros into blocks 6 to 77, then the head with M
unfoldable pub make_writes : ℕ → ℕ → List Write
make_writes code m =
    zero_block 0 ∷ (write_at 1 free_bytes ∷ (map zero_block (range_with_len 6 72) ++ (write_at 0 (head_of code (no_counts m)) ∷ [])))

-- a device that is too small for a register
abbrev pub too_small : Disk → Option Fault
too_small d = cond (nat_lt (blocks d) 78) (Some (too_few_blocks (blocks d))) None

-- refused before the device is brought online
abbrev pub make_refusal : ℕ → Disk → Option Fault
make_refusal m d = cond (nat_le 1 m && nat_le m 512) (too_small d) (Some bad_capacity)

abbrev pub make_plan : ℕ → ℕ → Result (Plan (Unit {0})) Fault
make_plan code m = Ok (record { answer = tt; writes = make_writes code m })

-- ---- the calls that work on a register at rest

-- the reservoir on the disk, or why there is none to work on
unfoldable pub at_rest : {X : Type 0} → ℕ → (List ℕ → Option X) → Disk → Result (Reservoir X) Fault
at_rest code reading d =
    refused_if (nat_lt (blocks d) 78) (too_few_blocks (blocks d))
    (refused_if (not d.online) (offline 1)
    (and_then (free_or_refused (header_of (entry_at d 1))) (λ _. decode code reading (entry_at d))))

-- ---- a commit: four blocks become those of the next reservoir

-- the bytes of the targets in a reservoir
abbrev pub changes_to : {X : Type 0} → ℕ → (X → List ℕ) → Reservoir X → List ℕ → List Write
changes_to code form r targets = map (λ b. write_at b (content code form r b)) targets

-- the block of a slot, and of a pack number
abbrev pub slot_block_of : ℕ → ℕ
slot_block_of i = 14 + i / 8

abbrev pub stock_block_of : ℕ → ℕ
stock_block_of p = 6 + p / 4096

-- ten writes: the after-images of the four targets, the pending header, the targets, the free header
abbrev pub ten_writes : {X : Type 0} → ℕ → (X → List ℕ) → Reservoir X → Pending → List Write
ten_writes code form next p = commit_writes 2 (pending_bytes p) (changes_to code form next p.blocks)

-- ---- Store

-- the slot blocks that a store writes: block 14 where it fills no slot
abbrev pub store_block : Option ℕ → ℕ
store_block (Some i) = slot_block_of i
store_block None = 14

abbrev pub store_targets : Option ℕ → ℕ → List ℕ
store_targets slot number = store_block slot ∷ (store_block slot ∷ (stock_block_of number ∷ (0 ∷ [])))

abbrev pub filled_slot : {X : Type 0} → Reservoir X → Drawn → Option ℕ
filled_slot r drawn = filled_by (effect r drawn.value) r.slots

-- q after the call, the width, the draw, and the slot that was filled
abbrev pub StoreAnswer : Type 0
StoreAnswer = ℕ × ℕ × ℕ × Option ℕ

unfoldable pub storing : {X : Type 0} → ℕ → (X → List ℕ) → Reservoir X → ℕ → X → Drawn → Plan StoreAnswer
storing code form r number item drawn = record {
  answer = (r.calls + 1, width r, drawn.value, filled_slot r drawn);
  writes = ten_writes code form (store r number item drawn.value drawn.used) (record {
    call = pending.Store (width r) drawn.value drawn.used;
    number = number;
    calls = r.calls + 1;
    words = r.words;
    blocks = store_targets (filled_slot r drawn) number;
  });
}

unfoldable pub store_plan : {X : Type 0} → ℕ → (X → List ℕ) → (List ℕ → Option X) → Disk → ℕ → X → (ℕ → Option ℕ) → Result (Plan StoreAnswer) Fault
store_plan code form reading d number item words =
    refused_if (nat_lt 32767 number) number_too_large
    (and_then (at_rest code reading d) (λ r.
    refused_if (r.calls == 4294967295) last_call
    (refused_if (r.stock number) in_stock
    (and_then (ok_or (draw_of words (width r) r.words) no_draw) (λ drawn. Ok (storing code form r number item drawn))))))

-- ---- Take

-- the slot blocks that a take writes: that of the slot h, and that of the last slot; block 14 twice where no slot is concerned
abbrev pub take_targets : Option ℕ → ℕ → ℕ → List ℕ
take_targets (Some h) k number = slot_block_of h ∷ (slot_block_of (k - 1) ∷ (stock_block_of number ∷ (0 ∷ [])))
take_targets None k number = 14 ∷ (14 ∷ (stock_block_of number ∷ (0 ∷ [])))

-- q after the call, and the slot that the number had
abbrev pub TakeAnswer : Type 0
TakeAnswer = ℕ × Option ℕ

unfoldable pub taking : {X : Type 0} → ℕ → (X → List ℕ) → Reservoir X → ℕ → Plan TakeAnswer
taking code form r number = record {
  answer = (r.calls + 1, slot_of r.slots number);
  writes = ten_writes code form (taken r number) (record {
    call = pending.Take;
    number = number;
    calls = r.calls + 1;
    words = r.words;
    blocks = take_targets (slot_of r.slots number) (length r.slots) number;
  });
}

unfoldable pub take_plan : {X : Type 0} → ℕ → (X → List ℕ) → (List ℕ → Option X) → Disk → ℕ → Result (Plan TakeAnswer) Fault
take_plan code form reading d number =
    refused_if (nat_lt 32767 number) number_too_large
    (and_then (at_rest code reading d) (λ r.
    refused_if (r.calls == 4294967295) last_call
    (refused_if (not (r.stock number)) not_in_stock (Ok (taking code form r number)))))

-- ---- Open

-- the words that a pending call used
abbrev pub used_by : PendingCall → ℕ
used_by (pending.Store width draw used) = used
used_by pending.Take = 0

-- the header agrees with the head that it is about
abbrev pub agrees : {X : Type 0} → Pending → Reservoir X → Bool
agrees p r = p.calls == r.calls && p.words + used_by p.call == r.words

-- the changes that are pending: each target with the bytes of its after-image
abbrev pub pending_changes : Disk → ℕ → List ℕ → List Write
pending_changes d first [] = []
pending_changes d first (t ∷ targets) = write_at t (bytes_of (entry_at d first)) ∷ pending_changes d (first + 1) targets

-- what Open finds: the reservoir, and the call that it finishes
pub record Finding (X : Type 0) : Type 0 where
  pub reservoir : Reservoir X
  pub finished : Option Pending

-- as Open answers it: the counters, and the finished call's number and draw
abbrev pub finished_call : PendingCall → ℕ → Finished
finished_call (pending.Store width draw used) number = finished.Store number draw
finished_call pending.Take number = finished.Take number

abbrev pub open_answer : {X : Type 0} → Finding X → Opened
open_answer f = record { counts = counts_of f.reservoir; finished = option_map (λ p. finished_call p.call p.number) f.finished }

abbrev pub finishing : {X : Type 0} → Disk → Pending → Reservoir X → Result (Plan (Finding X)) Fault
finishing d p r =
    cond (agrees p r)
    (Ok (record {
      answer = record { reservoir = r; finished = Some p };
      writes = replay_writes (pending_changes d 2 p.blocks);
    }))
    (Err (not_register 1 damage.Disagreement))

-- a free header: nothing to do; an unreadable one is freed; a pending one is finished
abbrev pub opened_by : {X : Type 0} → ℕ → (List ℕ → Option X) → Disk → Header → Result (Plan (Finding X)) Fault
opened_by code reading d header.Free =
    and_then (decode code reading (entry_at d)) (λ r. Ok (record { answer = record { reservoir = r; finished = None }; writes = [] }))
opened_by code reading d header.Unreadable =
    and_then (decode code reading (entry_at d)) (λ r.
    Ok (record { answer = record { reservoir = r; finished = None }; writes = write_at 1 free_bytes ∷ [] }))
opened_by code reading d (header.Pending p) =
    and_then (unless_fault (first_of (block_fault (entry_at d)) 2 4) (tt {0})) (λ _.
    and_then (decode code reading (viewed d 2 p.blocks)) (λ r. finishing d p r))
opened_by code reading d header.Unlawful = Err (not_register 1 damage.Range)
opened_by code reading d header.Other = Err (not_register 1 damage.Mark)

unfoldable pub open_plan : {X : Type 0} → ℕ → (List ℕ → Option X) → Disk → Result (Plan (Finding X)) Fault
open_plan code reading d = opened_by code reading d (header_of (entry_at d 1))

-- the reservoir that an Open of this disk would find, or why it would be refused
unfoldable pub found : {X : Type 0} → ℕ → (List ℕ → Option X) → Disk → Result (Reservoir X) Fault
found code reading d = and_then (open_plan code reading d) (λ plan. Ok plan.answer.reservoir)

-- ---- Report

-- the page with the slots of a reservoir: the bytes of blocks 14 to 77
unfoldable pub reported : {X : Type 0} → ℕ → (X → List ℕ) → Reservoir X → List ℕ → List ℕ
reported code form r page = joined (content code form r) 14 64 ++ drop 32768 page

-- the reservoir that is shown: the page must have room for all slots
abbrev pub reporting : {X : Type 0} → ℕ → (List ℕ → Option X) → Disk → List ℕ → Result (Reservoir X) Fault
reporting code reading d page = refused_if (nat_lt (length page) 32768) too_short (at_rest code reading d)
