-- The table of refusals: each refusal's number, layer, place and cause, and each refusal by its name.
-- Assumes nothing.
use Rattle.std.specs.Prelude.{ℕ, cond, ◌&&◌, Some, None, Option, nat_le}
use Rattle.fault.specs.declared.Fault.{Fault}
use Rattle.fault.specs.declared.Layer.{Layer}
use Rattle.fault.specs.declared.Layer.TheVariants.{Device, Journal, Register, Item, Intake}
use Rattle.fault.specs.declared.Place.{Place}
use Rattle.fault.specs.declared.Place.TheVariants.{Whole, Block, Count, Section, Byte}
use Rattle.fault.specs.declared.DeviceCause.{DeviceCause}
use Rattle.fault.specs.declared.DeviceCause.TheVariants.{Offline, TooFewBlocks}
use Rattle.fault.specs.declared.JournalCause.{JournalCause}
use Rattle.fault.specs.declared.JournalCause.TheVariants as journal
use Rattle.fault.specs.declared.RegisterCause.{RegisterCause}
use Rattle.fault.specs.declared.RegisterCause.TheVariants as register
use Rattle.fault.specs.declared.ItemCause.{ItemCause}
use Rattle.fault.specs.declared.ItemCause.TheVariants.{Unlawful}
use Rattle.fault.specs.declared.IntakeCause.{IntakeCause}
use Rattle.fault.specs.declared.IntakeCause.TheVariants.{LineTooLong, NotTransaction}
use Rattle.fault.specs.declared.Damage.{Damage}
use Rattle.fault.specs.declared.Damage.TheVariants.{Unreadable, Mark, Range, Disagreement, OtherKind}

-- ---- the number of each cause

abbrev pub device_number : DeviceCause → ℕ
device_number Offline = 1
device_number TooFewBlocks = 2

abbrev pub journal_number : JournalCause → ℕ
journal_number (journal.NotRegister d) = 3
journal_number journal.NotFree = 4

abbrev pub register_number : RegisterCause → ℕ
register_number (register.NotRegister d) = 3
register_number register.NumberTooLarge = 5
register_number register.InStock = 6
register_number register.NotInStock = 7
register_number register.LastCall = 9
register_number register.NoDraw = 10
register_number register.BadCapacity = 11
register_number register.TooShort = 14

abbrev pub item_number : ItemCause → ℕ
item_number Unlawful = 8

abbrev pub intake_number : IntakeCause → ℕ
intake_number LineTooLong = 12
intake_number NotTransaction = 13

abbrev pub layer_number : Layer → ℕ
layer_number (Device p c) = device_number c
layer_number (Journal p c) = journal_number c
layer_number (Register p c) = register_number c
layer_number (Item p c) = item_number c
layer_number (Intake p c) = intake_number c

-- the refusal's number in the table
abbrev pub number_of : Fault → ℕ
number_of f = layer_number f.layer

-- ---- where it points

abbrev pub layer_place : Layer → Place
layer_place (Device p c) = p
layer_place (Journal p c) = p
layer_place (Register p c) = p
layer_place (Item p c) = p
layer_place (Intake p c) = p

abbrev pub place_of : Fault → Place
place_of f = layer_place f.layer

-- ---- the cause of a 3, which alone has one

abbrev pub damage_number : Damage → ℕ
damage_number Unreadable = 1
damage_number Mark = 2
damage_number Range = 3
damage_number Disagreement = 4
damage_number OtherKind = 5

abbrev journal_damage : JournalCause → Option Damage
journal_damage (journal.NotRegister d) = Some d
journal_damage journal.NotFree = None

abbrev register_damage : RegisterCause → Option Damage
register_damage (register.NotRegister d) = Some d
register_damage register.NumberTooLarge = None
register_damage register.InStock = None
register_damage register.NotInStock = None
register_damage register.LastCall = None
register_damage register.NoDraw = None
register_damage register.BadCapacity = None
register_damage register.TooShort = None

abbrev layer_damage : Layer → Option Damage
layer_damage (Device p c) = None
layer_damage (Journal p c) = journal_damage c
layer_damage (Register p c) = register_damage c
layer_damage (Item p c) = None
layer_damage (Intake p c) = None

abbrev pub damage_of : Fault → Option Damage
damage_of f = layer_damage f.layer

-- ---- each refusal by its name

abbrev of : Layer → Fault
of l = record { layer = l }

-- 1: the device is offline at this block, 0 for bringing it online
abbrev pub offline : ℕ → Fault
offline block = of (Device (Block block) Offline)

-- 2: the device has only so many blocks
abbrev pub too_few_blocks : ℕ → Fault
too_few_blocks count = of (Device (Count count) TooFewBlocks)

-- 3: not a register; blocks 1 to 5 are the journal's
abbrev pub not_register : ℕ → Damage → Fault
not_register block d =
    of (cond (nat_le 1 block && nat_le block 5) (Journal (Block block) (journal.NotRegister d)) (Register (Block block) (register.NotRegister d)))

-- 4: the journal header is pending or unreadable
abbrev pub not_free : Fault
not_free = of (Journal (Block 1) journal.NotFree)

-- 5: a pack number above 32,767
abbrev pub number_too_large : Fault
number_too_large = of (Register Whole register.NumberTooLarge)

-- 6
abbrev pub in_stock : Fault
in_stock = of (Register Whole register.InStock)

-- 7
abbrev pub not_in_stock : Fault
not_in_stock = of (Register Whole register.NotInStock)

-- 8: an item's first unlawful section, counted from 1
abbrev pub unlawful : ℕ → Fault
unlawful section = of (Item (Section section) Unlawful)

-- 9: the count of committed calls has reached its end
abbrev pub last_call : Fault
last_call = of (Register Whole register.LastCall)

-- 10
abbrev pub no_draw : Fault
no_draw = of (Register Whole register.NoDraw)

-- 11: a capacity that is not 1 to 512
abbrev pub bad_capacity : Fault
bad_capacity = of (Register Whole register.BadCapacity)

-- 12: a line of more than 100 bytes
abbrev pub line_too_long : Fault
line_too_long = of (Intake (Byte 100) LineTooLong)

-- 13: a line that is no transaction, from this byte on
abbrev pub not_transaction : ℕ → Fault
not_transaction at = of (Intake (Byte at) NotTransaction)

-- 14: the caller's buffer or table is too short
abbrev pub too_short : Fault
too_short = of (Register Whole register.TooShort)
