-- When a Store, Take or Report in a session is refused: by the status of the device, the reservoir and the arguments, in the order of
-- the table of refusals.
-- Assumes nothing.
use Rattle.std.specs.Prelude.{ℕ, Bool, cond, not, Some, None, Option, ◌==◌, nat_lt}
use Rattle.fault.specs.Refusals.{offline, not_register, not_free, number_too_large, in_stock, not_in_stock, last_call, no_draw, too_short}
use Rattle.fault.specs.declared.Damage.TheVariants.{OtherKind}
use Rattle.fault.specs.declared.Fault.{Fault}
use Rattle.device.specs.Disk.{Disk, entry_at}
use Rattle.words.specs.Draws.{draw_of}
use Rattle.words.specs.declared.draws.Drawn.{Drawn}
use Rattle.pairing.specs.Reservoir.{Reservoir, width}
use Rattle.journal.specs.Header.{header_of}
use Rattle.journal.specs.declared.headers.Header.{Header}
use Rattle.journal.specs.declared.headers.Header.TheVariants as header
use Rattle.session.specs.Calls.{Request, Store, Take, Report, Open}

-- the status of a device: offline; online, with a journal header that is not free; ready
pub data Status : Type 0 where
  down : Status
  busy : Status
  ready : Status

abbrev pub header_status : Header → Status
header_status header.Free = ready
header_status header.Unreadable = busy
header_status (header.Pending p) = busy
header_status header.Unlawful = busy
header_status header.Other = busy

abbrev pub status_of : Disk → Status
status_of d = cond d.online (header_status (header_of (entry_at d 1))) down

-- the fault where the test holds, else what comes later
abbrev pub fault_if : Bool → Fault → Option Fault → Option Fault
fault_if test f later = cond test (Some f) later

-- 1 at block 1, 4, or what comes later
abbrev pub when_ready : Status → Option Fault → Option Fault
when_ready down later = Some (offline 1)
when_ready busy later = Some not_free
when_ready ready later = later

abbrev pub undrawn : Option Drawn → Option Fault
undrawn (Some drawn) = None
undrawn None = Some no_draw

-- for the register's own kind; Open has a rule of its own
abbrev pub refusal : {X : Type 0} → Status → Reservoir X → ℕ → Request X → Option Fault
refusal s r room (Store number item words) =
    fault_if (nat_lt 32767 number) number_too_large
    (when_ready s
    (fault_if (r.calls == 4294967295) last_call
    (fault_if (r.stock number) in_stock (undrawn (draw_of words (width r) r.words)))))
refusal s r room (Take number) =
    fault_if (nat_lt 32767 number) number_too_large
    (when_ready s (fault_if (r.calls == 4294967295) last_call (fault_if (not (r.stock number)) not_in_stock None)))
refusal s r room Report = fault_if (nat_lt room 32768) too_short (when_ready s None)
refusal s r room Open = None

-- for another kind: as far as the kind is told
abbrev pub other_refusal : {Y : Type 0} → Status → ℕ → Request Y → Option Fault
other_refusal s room (Store number item words) = fault_if (nat_lt 32767 number) number_too_large (when_ready s (Some (not_register 0 OtherKind)))
other_refusal s room (Take number) = fault_if (nat_lt 32767 number) number_too_large (when_ready s (Some (not_register 0 OtherKind)))
other_refusal s room Report = fault_if (nat_lt room 32768) too_short (when_ready s (Some (not_register 0 OtherKind)))
other_refusal s room Open = None
