-- Lemmas on how a call begins.
-- Assumes nothing.
use Rattle.std.proofs.Common.{◌≡◌, ℕ, Ok, Err, Result, MatchResult, IsErrAnd, sym, ap, ◌∙◌, subst, arith}
use Rattle.std.specs.Result.{result_map_both}
use Rattle.std.proofs.lemmas.Result.{err_from_is_err_and}
use Rattle.fault.specs.Refusals.{offline}
use Rattle.fault.specs.declared.Fault.{Fault}
use Rattle.device.specs.Disk.{Disk, entry_at, Brings}
use Rattle.device.specs.declared.DeviceError.{DeviceError}
use Rattle.device.proofs.Disk.{brought_ok, brought_err, reading_online}
use Rattle.journal.specs.Header.{header_of}
use Rattle.journal.specs.declared.headers.Header.{Header}
use Rattle.reader.specs.Reads.{HeaderRead}
use Rattle.startup.specs.Starts.{Came, came, stayed, Ready}

-- ---- bringing online

-- a device that was told to come online, with a fault in place of its refusal
pub came_or_stayed :
    {d d' : Disk} (r : Result (Unit {0}) DeviceError) (m : Result (Unit {0}) Fault) → Brings d r d' →
    MatchResult r (λ u. m ≡ Ok u) (λ x. IsErrAnd m (λ f. f ≡ offline 0)) → Came d m d'
came_or_stayed {d} {d'} (Ok u) m h is = subst (λ m. Came d m d') (sym is) (subst (Came d (Ok tt)) (sym (brought_ok h.brought).1) came)
came_or_stayed {d} {d'} (Err x) m h is =
    let p = err_from_is_err_and m is in
    subst (λ m. Came d m d') (sym (p.1 ∙ ap Err p.2)) (subst (Came d (Err (offline 0))) (sym (brought_err h.brought).2) stayed)

-- ---- the header of a device that is ready

header_read : (d : Disk) (r : Result Header Fault) → Ready d → HeaderRead d r → r ≡ Ok (header_of (entry_at d 1))
header_read d r s got = got ∙ ap (result_map_both header_of (λ _. offline 1)) (reading_online d 1 (omega (arith, s.inside)) s.online)

pub header_is : (d : Disk) (h : Header) → Ready d → HeaderRead d (Ok h) → header_of (entry_at d 1) ≡ h
header_is d h s got = let e = header_read d (Ok h) s got in cc

pub header_there : (d : Disk) (x : Fault) → Ready d → HeaderRead d (Err x) → ⊥
header_there d x s got = let e = header_read d (Err x) s got in let z : ◌≡◌ {A = ℕ} 0 1 = cc in omega arith
