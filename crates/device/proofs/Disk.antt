-- What follows from the meaning of a device's calls: for the devices of this crate, and for the crates above.
use Rattle.std.proofs.Common.{◌≡◌, ℕ, ◌<◌, ◌≤◌, Bool, true, false, cond, ltb, ◌≢◌, List, [], ◌∷◌, length, IsErrAnd, Ok, Err, Result, sym, refl, ap, ◌∙◌, subst, arith, Some, None}
use Rattle.std.proofs.lemmas.List.{length-set, get_or-set_same, get_or-set_other, set-get_or}
use Rattle.std.proofs.lemmas.Bool.{lt-ltb, le-ltb, ltb-true, ltb-false, cond-true, cond-false, both_ways}
use Rattle.std.proofs.lemmas.Result.{err_from_is_err_and}
use Rattle.device.specs.declared.DeviceError.{DeviceError}
use Rattle.device.specs.declared.DeviceError.TheVariants.{Outside, Offline}
use Rattle.device.specs.declared.Remains.{Remains}
use Rattle.device.specs.Disk.{Entry, Disk, blocks, entry_at, put, turned, reading, Event, left_by, Wrote, BroughtOnline, Writes, Brings}
use Rattle.device.specs.Disk.{write_done, write_lost, online_done, online_refused}
use Rattle.device.specs.Disk.{outside, offline, done, lost, came, stayed}

-- ---- disks

pub turned_same : (d : Disk) (o : Bool) → d.online ≡ o → turned d o ≡ d
turned_same d o e = λ i. record { entries = d.entries; online = sym e i }

pub put_same : (d : Disk) (b : ℕ) → put d b (entry_at d b) ≡ d
put_same d b = λ i. record { entries = set-get_or d.entries b None i; online = d.online }

pub blocks_put : (d : Disk) (b : ℕ) (e : Entry) → blocks (put d b e) ≡ blocks d
blocks_put d b e = length-set d.entries b e

pub entry_at_put : (d : Disk) (b : ℕ) (e : Entry) → b < blocks d → entry_at (put d b e) b ≡ e
entry_at_put d b e h = get_or-set_same d.entries b e None h

pub entry_at_put_other : (d : Disk) (b k : ℕ) (e : Entry) → k ≢ b → entry_at (put d b e) k ≡ entry_at d k
entry_at_put_other d b k e h = get_or-set_other d.entries b k e None h

-- ---- Read

pub reading_outside : (d : Disk) (b : ℕ) → blocks d ≤ b → reading d b ≡ Err Outside
unfolding reading
reading_outside d b h = cond-false _ _ _ (le-ltb b (blocks d) h)

pub reading_offline : (d : Disk) (b : ℕ) → b < blocks d → d.online ≡ false → reading d b ≡ Err Offline
unfolding reading
reading_offline d b h o = cond-true _ _ _ (lt-ltb b (blocks d) h) ∙ cond-false _ _ _ o

pub reading_online : (d : Disk) (b : ℕ) → b < blocks d → d.online ≡ true → reading d b ≡ Ok (entry_at d b)
unfolding reading
reading_online d b h o = cond-true _ _ _ (lt-ltb b (blocks d) h) ∙ cond-true _ _ _ o

-- what the answer tells
pub reading_ok : (d : Disk) (b : ℕ) (e : Entry) → Ok e ≡ reading d b → (b < blocks d) × (d.online ≡ true) × (e ≡ entry_at d b)
unfolding reading
reading_ok d b e h = go (ltb b (blocks d)) d.online refl refl h
  where
    go :
        (t o : Bool) → ltb b (blocks d) ≡ t → d.online ≡ o →
        ◌≡◌ {A = Result Entry DeviceError} (Ok e) (cond t (cond o (Ok (entry_at d b)) (Err Offline)) (Err Outside)) →
        (b < blocks d) × (d.online ≡ true) × (e ≡ entry_at d b)
    go true true p q r = (ltb-true b (blocks d) p, q, cc)
    go true false p q r = absurd (let z : ◌≡◌ {A = ℕ} 0 1 = cc in omega arith)
    go false o p q r = absurd (let z : ◌≡◌ {A = ℕ} 0 1 = cc in omega arith)

pub reading_err : (d : Disk) (b : ℕ) (x : DeviceError) → b < blocks d → Err x ≡ reading d b → (d.online ≡ false) × (x ≡ Offline)
unfolding reading
reading_err d b x l h = go d.online refl (h ∙ cond-true _ _ _ (lt-ltb b (blocks d) l))
  where
    go :
        (o : Bool) → d.online ≡ o → ◌≡◌ {A = Result Entry DeviceError} (Err x) (cond o (Ok (entry_at d b)) (Err Offline)) →
        (d.online ≡ false) × (x ≡ Offline)
    go true q r = absurd (let z : ◌≡◌ {A = ℕ} 0 1 = cc in omega arith)
    go false q r = (q, cc)

-- ---- Write: what it tells

module _ {d : Disk} {b : ℕ} {new : List ℕ} where
  -- no write changes the count
  pub wrote_blocks : {a : Result (Unit {0}) DeviceError} {es : List Event} {d' : Disk} → Wrote d b new a es d' → blocks d' ≡ blocks d
  wrote_blocks (outside h) = refl
  wrote_blocks (offline h o) = refl
  wrote_blocks (done h o) = blocks_put d b (Some new)
  wrote_blocks (lost m h o) = blocks_put d b (left_by m (entry_at d b) new)

  -- no write changes another block
  pub wrote_other : {a : Result (Unit {0}) DeviceError} {es : List Event} {d' : Disk} → Wrote d b new a es d' → (k : ℕ) → k ≢ b → entry_at d' k ≡ entry_at d k
  wrote_other (outside h) k n = refl
  wrote_other (offline h o) k n = refl
  wrote_other (done h o) k n = entry_at_put_other d b k (Some new) n
  wrote_other (lost m h o) k n = entry_at_put_other d b k (left_by m (entry_at d b) new) n

  -- a write that is done
  pub wrote_ok :
      {u : Unit {0}} {es : List Event} {d' : Disk} → Wrote d b new (Ok u) es d' →
      (b < blocks d) × (d.online ≡ true) × (es ≡ write_done ∷ []) × (d' ≡ put d b (Some new))
  wrote_ok (done h o) = (h, o, refl, refl)

  -- a write on an online device that is not done is lost
  pub wrote_err :
      {x : DeviceError} {es : List Event} {d' : Disk} → Wrote d b new (Err x) es d' → b < blocks d → d.online ≡ true →
      (m : Remains) × (x ≡ Offline) × (es ≡ write_lost m ∷ []) × (d' ≡ turned (put d b (left_by m (entry_at d b) new)) false)
  wrote_err (outside h) l p = absurd (omega arith)
  wrote_err (offline h o) l p = absurd (both_ways d.online o p)
  wrote_err (lost m h o) l p = (m, refl, refl, refl)

  -- a write without an event changes nothing
  pub wrote_nothing : {a : Result (Unit {0}) DeviceError} {d' : Disk} → Wrote d b new a [] d' → d' ≡ d
  wrote_nothing (outside h) = refl
  wrote_nothing (offline h o) = refl

  -- after Offline the device is offline
  pub wrote_offline : {es : List Event} {d' : Disk} → Wrote d b new (Err Offline) es d' → d'.online ≡ false
  wrote_offline (offline h o) = o
  wrote_offline (lost m h o) = refl

-- the events decide the answer and the disk
pub wrote_same :
    {d : Disk} {b : ℕ} {new : List ℕ} {a a' : Result (Unit {0}) DeviceError} {es : List Event} {d₁ d₂ : Disk} →
    Wrote d b new a es d₁ → Wrote d b new a' es d₂ → (a ≡ a') × (d₁ ≡ d₂)
wrote_same (outside h) (outside k) = (refl, refl)
wrote_same (outside h) (offline k o) = absurd (omega arith)
wrote_same (offline h o) (outside k) = absurd (omega arith)
wrote_same (offline h o) (offline k p) = (refl, refl)
wrote_same (done h o) (done k p) = (refl, refl)
wrote_same (lost m h o) (lost n k p) = (refl, refl)

-- ---- Write: to make it

pub writes : {d : Disk} {b : ℕ} {new : List ℕ} {a : Result (Unit {0}) DeviceError} {es : List Event} {d' : Disk} → Wrote d b new a es d' → Writes d b new a d'
writes {es = es} w = record { events = es; wrote = w; fixed = wrote_blocks w }

module _ {d d' : Disk} {b : ℕ} {new : List ℕ} where
  pub writes_done : b < blocks d → d.online ≡ true → d' ≡ put d b (Some new) → Writes d b new (Ok tt) d'
  writes_done h o e =
      writes (subst (λ x. Wrote d b new (Ok tt) (write_done ∷ []) x) (sym e) (done h o))

  pub writes_lost :
      {x : DeviceError} (m : Remains) → x ≡ Offline → b < blocks d → d.online ≡ true →
      d' ≡ turned (put d b (left_by m (entry_at d b) new)) false → Writes d b new (Err x) d'
  writes_lost m q h o e =
      subst
      (λ y. Writes d b new (Err y) d')
      (sym q)
      (writes (subst (λ y. Wrote d b new (Err Offline) (write_lost m ∷ []) y) (sym e) (lost m h o)))

pub writes_outside : {d : Disk} {b : ℕ} {new : List ℕ} → blocks d ≤ b → Writes d b new (Err Outside) d
writes_outside h = writes (outside h)

pub writes_offline : {d : Disk} {b : ℕ} {new : List ℕ} → b < blocks d → d.online ≡ false → Writes d b new (Err Offline) d
writes_offline h o = writes (offline h o)

-- where a read is refused, so is a write
pub writes_refused : (d : Disk) (b : ℕ) (new : List ℕ) (x : DeviceError) → reading d b ≡ Err x → Writes d b new (Err x) d
unfolding reading
writes_refused d b new x h = go (ltb b (blocks d)) d.online refl refl h
  where
    go :
        (t o : Bool) → ltb b (blocks d) ≡ t → d.online ≡ o →
        ◌≡◌ {A = Result Entry DeviceError} (cond t (cond o (Ok (entry_at d b)) (Err Offline)) (Err Outside)) (Err x) →
        Writes d b new (Err x) d
    go true true p q r = absurd (let z : ◌≡◌ {A = ℕ} 0 1 = cc in omega arith)
    go true false p q r =
        let e : Offline ≡ x = cc in
        subst (λ y. Writes d b new (Err y) d) e (writes_offline (ltb-true b (blocks d) p) q)
    go false o p q r =
        let e : Outside ≡ x = cc in
        subst (λ y. Writes d b new (Err y) d) e (writes_outside (ltb-false b (blocks d) p))

-- ---- bringing online

-- it changes no block
pub brought_entries : {d : Disk} {a : Result (Unit {0}) DeviceError} {es : List Event} {d' : Disk} → BroughtOnline d a es d' → d'.entries ≡ d.entries
brought_entries came = refl
brought_entries stayed = refl

pub brought_ok : {d : Disk} {u : Unit {0}} {es : List Event} {d' : Disk} → BroughtOnline d (Ok u) es d' → (es ≡ online_done ∷ []) × (d' ≡ turned d true)
brought_ok came = (refl, refl)

pub brought_err : {d : Disk} {x : DeviceError} {es : List Event} {d' : Disk} → BroughtOnline d (Err x) es d' → (x ≡ Offline) × (es ≡ online_refused ∷ []) × (d' ≡ turned d false)
brought_err stayed = (refl, refl, refl)

-- the events decide the answer and the disk
pub brought_same :
    {d : Disk} {a a' : Result (Unit {0}) DeviceError} {es : List Event} {d₁ d₂ : Disk} →
    BroughtOnline d a es d₁ → BroughtOnline d a' es d₂ → (a ≡ a') × (d₁ ≡ d₂)
brought_same came came = (refl, refl)
brought_same stayed stayed = (refl, refl)

pub brings : {d : Disk} {a : Result (Unit {0}) DeviceError} {es : List Event} {d' : Disk} → BroughtOnline d a es d' → Brings d a d'
brings {es = es} t = record { events = es; brought = t; fixed = ap length (brought_entries t) }

pub brings_done : {d d' : Disk} → d' ≡ turned d true → Brings d (Ok tt) d'
brings_done {d} {d'} e = brings (subst (λ x. BroughtOnline d (Ok tt) (online_done ∷ []) x) (sym e) came)

pub brings_refused : {d d' : Disk} → d' ≡ turned d false → Brings d (Err Offline) d'
brings_refused {d} {d'} e = brings (subst (λ x. BroughtOnline d (Err Offline) (online_refused ∷ []) x) (sym e) stayed)

-- ---- the exit of a `?`

pub exit_is : {T E : Type 0} {r : Result T E} {x : E} → IsErrAnd r (λ y. y ≡ x) → r ≡ Err x
exit_is {T} {r} {x} h = let p = err_from_is_err_and r h in p.1 ∙ ap Err p.2
