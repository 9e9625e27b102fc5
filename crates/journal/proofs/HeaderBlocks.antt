-- The blocks of a header that reads as pending, whatever bytes it has.
-- Assumes nothing.
use Rattle.std.proofs.Common.{◌≡◌, ℕ, Bool, true, false, cond, ◌&&◌, ltb, Some, None, Option, refl, subst, arith}
use Rattle.std.specs.Str.{bytes_eq}
use Rattle.std.proofs.lemmas.Bool.{and_parts}
use Rattle.journal.specs.declared.headers.Header.TheVariants as header
use Rattle.journal.specs.declared.headers.Pending.{Pending}
use Rattle.journal.specs.declared.headers.PendingCall.{PendingCall}
use Rattle.journal.specs.declared.headers.fields.Fields.{Fields}
use Rattle.journal.specs.Header.{free_bytes, marked, fields_of, call_of, with_call, pending_of, lawful_blocks, header_of}
use Rattle.journal.specs.HeaderLaws.{LawfulBlocks}
use Rattle.journal.proofs.HeaderLaws.{blocks_are, read_pending}
use Rattle.device.specs.Disk.{Entry}

blocks_of :
    (test : Bool) (f : Fields) (c : Option PendingCall) (p : Pending) → cond test (with_call f c) None ≡ Some p →
    (test ≡ true) × (f.blocks ≡ p.blocks)
blocks_of true f (Some c) p h = (refl, cc)
blocks_of true f None p h = absurd (let z : ◌≡◌ {A = ℕ} 0 1 = cc in omega arith)
blocks_of false f c p h = absurd (let z : ◌≡◌ {A = ℕ} 0 1 = cc in omega arith)

pub header_blocks : (e : Entry) (p : Pending) → header_of e ≡ header.Pending p → LawfulBlocks p.blocks
unfolding header_of
header_blocks None p h = absurd (let z : ◌≡◌ {A = ℕ} 0 1 = cc in omega arith)
header_blocks (Some bs) p h =
    let f = fields_of bs in
    let is = read_pending (bytes_eq bs free_bytes) (marked bs) (pending_of f) p h in
    let q = blocks_of (ltb f.number 32768 && lawful_blocks f.blocks) f (call_of f.call) p is.1 in
    subst LawfulBlocks q.1 (blocks_are f.blocks refl (and_parts (ltb f.number 32768) (lawful_blocks f.blocks) q.0).1)
