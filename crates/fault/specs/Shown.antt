-- A refusal in words: `refusal NUMBER (LAYER), PLACE: CAUSE`, as `Display` prints it, in ASCII bytes.
-- Assumes nothing.
use Rattle.std.specs.Prelude.{ℕ, List, [], ◌++◌, Some, None, codes, decimal, Option}
use Rattle.fault.specs.declared.Fault.{Fault}
use Rattle.fault.specs.declared.Layer.{Layer}
use Rattle.fault.specs.declared.Layer.TheVariants.{Device, Journal, Register, Item, Intake}
use Rattle.fault.specs.declared.Place.{Place}
use Rattle.fault.specs.declared.Place.TheVariants.{Whole, Block, Count, Section, Byte}
use Rattle.fault.specs.declared.DeviceCause.{DeviceCause}
use Rattle.fault.specs.declared.DeviceCause.TheVariants.{Offline, TooFewBlocks}
use Rattle.fault.specs.declared.JournalCause.{JournalCause}
use Rattle.fault.specs.declared.JournalCause.TheVariants as journal
use Rattle.fault.specs.declared.RegisterCause.{RegisterCause}
use Rattle.fault.specs.declared.RegisterCause.TheVariants as register
use Rattle.fault.specs.declared.ItemCause.{ItemCause}
use Rattle.fault.specs.declared.ItemCause.TheVariants.{Unlawful}
use Rattle.fault.specs.declared.IntakeCause.{IntakeCause}
use Rattle.fault.specs.declared.IntakeCause.TheVariants.{LineTooLong, NotTransaction}
use Rattle.fault.specs.declared.Damage.{Damage}
use Rattle.fault.specs.declared.Damage.TheVariants.{Unreadable, Mark, Range, Disagreement, OtherKind}
use Rattle.fault.specs.Refusals.{number_of, place_of, damage_of, damage_number}

abbrev pub layer_words : Layer → List ℕ
layer_words (Device p c) = codes "device"
layer_words (Journal p c) = codes "journal"
layer_words (Register p c) = codes "register"
layer_words (Item p c) = codes "item"
layer_words (Intake p c) = codes "intake"

-- after a comma; nothing where there is no place
abbrev pub place_words : Place → List ℕ
place_words Whole = []
place_words (Block n) = codes ", block " ++ decimal n
place_words (Count n) = codes ", " ++ (decimal n ++ codes " blocks")
place_words (Section n) = codes ", section " ++ decimal n
place_words (Byte n) = codes ", byte " ++ decimal n

abbrev pub damage_words : Damage → List ℕ
damage_words Unreadable = codes "unreadable"
damage_words Mark = codes "a wrong mark or a byte that should be zero"
damage_words Range = codes "a value out of its range or an unlawful form"
damage_words Disagreement = codes "two parts that contradict each other"
damage_words OtherKind = codes "another kind of item"

abbrev pub register_words : RegisterCause → List ℕ
register_words (register.NotRegister d) = codes "not a register"
register_words register.NumberTooLarge = codes "the pack number is above 32767"
register_words register.InStock = codes "the pack is already in stock"
register_words register.NotInStock = codes "the pack is not in stock"
register_words register.LastCall = codes "no further call can be counted"
register_words register.NoDraw = codes "the word source gives no draw"
register_words register.BadCapacity = codes "the capacity is not 1 to 512"
register_words register.TooShort = codes "the buffer or the table is too short"

abbrev pub device_words : DeviceCause → List ℕ
device_words Offline = codes "the device is offline"
device_words TooFewBlocks = codes "fewer than 78 blocks"

abbrev pub journal_words : JournalCause → List ℕ
journal_words (journal.NotRegister d) = codes "not a register"
journal_words journal.NotFree = codes "the journal header is pending or unreadable"

abbrev pub item_words : ItemCause → List ℕ
item_words Unlawful = codes "the item is unlawful"

abbrev pub intake_words : IntakeCause → List ℕ
intake_words LineTooLong = codes "the line is longer than 100 bytes"
intake_words NotTransaction = codes "not a transaction"

abbrev pub cause_words : Layer → List ℕ
cause_words (Device p c) = device_words c
cause_words (Journal p c) = journal_words c
cause_words (Register p c) = register_words c
cause_words (Item p c) = item_words c
cause_words (Intake p c) = intake_words c

abbrev pub detail_words : Option Damage → List ℕ
detail_words None = []
detail_words (Some d) = codes ", cause " ++ (decimal (damage_number d) ++ (codes ": " ++ damage_words d))

abbrev pub refusal_words : Fault → List ℕ
refusal_words f =
    codes "refusal " ++ (decimal (number_of f) ++ (codes " (" ++ (layer_words f.layer ++ (codes ")" ++ (place_words (place_of f)
    ++ (codes ": " ++ (cause_words f.layer ++ detail_words (damage_of f))))))))
