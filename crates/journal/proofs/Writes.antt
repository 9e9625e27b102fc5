-- What follows from a run of writes.
-- Assumes nothing.
use Rattle.std.proofs.Common.{◌≡◌, ℕ, zero, suc, ◌+◌, ◌<◌, true, false, List, [], ◌∷◌, ◌++◌, length, get_or, drop, replicate, IsErrAnd, MatchResult, Ok, Err, Result, sym, refl, ap, ◌∙◌, subst, arith, Some}
use Rattle.std.specs.List.{AllByRecursion}
use Rattle.std.proofs.lemmas.List.{drop_more}
use Rattle.std.proofs.lemmas.Bool.{both_ways}
use Rattle.fault.specs.declared.Fault.{Fault}
use Rattle.fault.specs.Refusals as refusals
use Rattle.device.specs.declared.DeviceError.{DeviceError}
use Rattle.device.specs.Disk.{Disk, blocks, entry_at, put, Event, Wrote, Writes, write_done}
use Rattle.device.specs.Disk.{outside, offline, done, lost}
use Rattle.device.proofs.Disk.{blocks_put, wrote_blocks, wrote_other, wrote_same}
pub use Rattle.device.proofs.Disk.{exit_is}
use Rattle.journal.specs.declared.Write.{Write}
use Rattle.journal.specs.Writes.{Ran, Runs, finished, goes_on, stops, write_at, next_block, images_from, Inside, Spares, landed, leaves_new}
use Rattle.journal.proofs.Puts.{puts_last}
use Rattle.journal.specs.WriteLaws.{Done, Lost, RunsAsTold}

-- no run changes the count
pub ran_blocks :
    {ws : List Write} {d d' : Disk} {a : Result (Unit {0}) Fault} {es : List Event} → Ran ws d a es d' → blocks d' ≡ blocks d
ran_blocks finished = refl
ran_blocks (goes_on w r) = ran_blocks r ∙ wrote_blocks w
ran_blocks (stops w) = wrote_blocks w

pub runs :
    {ws : List Write} {d d' : Disk} {a : Result (Unit {0}) Fault} {es : List Event} → Ran ws d a es d' → Runs ws d a d'
runs {es = es} r = record { events = es; ran = r; fixed = ran_blocks r }

-- ---- runs one after the other

pub ran_append :
    {ws vs : List Write} {d d₁ d' : Disk} {a : Result (Unit {0}) Fault} {es fs : List Event} →
    Ran ws d (Ok tt) es d₁ → Ran vs d₁ a fs d' → Ran (ws ++ vs) d a (es ++ fs) d'
ran_append finished s = s
ran_append (goes_on w r) s = goes_on w (ran_append r s)

-- a run that stops, stops before whatever would follow
pub ran_before :
    {ws : List Write} (vs : List Write) {d d' : Disk} {x : Fault} {es : List Event} → Ran ws d (Err x) es d' →
    Ran (ws ++ vs) d (Err x) es d'
ran_before vs (goes_on w r) = goes_on w (ran_before vs r)
ran_before vs (stops w) = stops w

pub runs_append :
    {ws vs : List Write} {d d₁ d' : Disk} {a : Result (Unit {0}) Fault} →
    Runs ws d (Ok tt) d₁ → Runs vs d₁ a d' → Runs (ws ++ vs) d a d'
runs_append r s = runs (ran_append r.ran s.ran)

pub runs_before :
    {ws : List Write} (vs : List Write) {d d' : Disk} {a : Result (Unit {0}) Fault} {x : Fault} → a ≡ Err x → Runs ws d (Err x) d' →
    Runs (ws ++ vs) d a d'
runs_before {ws} vs {d} {d'} e r = subst (λ a. Runs (ws ++ vs) d a d') (sym e) (runs (ran_before vs r.ran))

-- a run of ws and then vs: it stops in ws, or ws is done and vs runs
pub data Splits (ws vs : List Write) (d : Disk) : Result (Unit {0}) Fault → List Event → Disk → Type 0 where
  within : {x : Fault} {es : List Event} {d' : Disk} → Ran ws d (Err x) es d' → Splits ws vs d (Err x) es d'
  across :
      {a : Result (Unit {0}) Fault} {es fs gs : List Event} {d₁ d' : Disk} →
      Ran ws d (Ok tt) es d₁ → Ran vs d₁ a fs d' → es ++ fs ≡ gs → Splits ws vs d a gs d'

splits_more :
    {w : Write} {ws vs : List Write} {d d₁ d' : Disk} {a : Result (Unit {0}) Fault} {es : List Event} →
    Wrote d w.block w.bytes (Ok tt) (write_done ∷ []) d₁ → Splits ws vs d₁ a es d' → Splits (w ∷ ws) vs d a (write_done ∷ es) d'
splits_more h (within r) = within (goes_on h r)
splits_more h (across r s e) = across (goes_on h r) s (ap (λ l. write_done ∷ l) e)

pub ran_split :
    (ws vs : List Write) {d d' : Disk} {a : Result (Unit {0}) Fault} {es : List Event} → Ran (ws ++ vs) d a es d' →
    Splits ws vs d a es d'
ran_split [] vs r = across finished r refl
ran_split (w ∷ ws) vs (goes_on h r) = splits_more h (ran_split ws vs r)
ran_split (w ∷ ws) vs (stops h) = within (stops h)

-- ---- what a run tells

-- no run changes a block that no write is to
pub ran_other :
    {ws : List Write} {d d' : Disk} {a : Result (Unit {0}) Fault} {es : List Event} → Ran ws d a es d' → (k : ℕ) → Spares k ws →
    entry_at d' k ≡ entry_at d k
ran_other finished k n = refl
ran_other (goes_on h r) k n = ran_other r k n.1 ∙ wrote_other h k n.0
ran_other (stops h) k n = wrote_other h k n.0

never_done :
    {d d' : Disk} {b : ℕ} {new : List ℕ} {x : DeviceError} {es fs : List Event} → Wrote d b new (Err x) es d' →
    es ≡ write_done ∷ fs → ⊥
never_done (outside h) e = let z : ◌≡◌ {A = ℕ} 0 1 = cc in omega arith
never_done (offline h o) e = let z : ◌≡◌ {A = ℕ} 0 1 = cc in omega arith
never_done (lost m h o) e = let z : ◌≡◌ {A = ℕ} 0 1 = cc in omega arith

-- the events decide the answer and the disk
pub ran_same :
    {ws : List Write} {d d₁ d₂ : Disk} {a b : Result (Unit {0}) Fault} {es : List Event} → Ran ws d a es d₁ → Ran ws d b es d₂ →
    (a ≡ b) × (d₁ ≡ d₂)
ran_same finished finished = (refl, refl)
ran_same (goes_on {ws = ws} {d₁ = e₁} {d' = d₁} {a = a} {es = es} h r) (goes_on k s) =
    ran_same (subst (λ e. Ran ws e a es d₁) (wrote_same h k).1 r) s
ran_same (goes_on h r) (stops k) = absurd (never_done k refl)
ran_same (stops h) (goes_on k s) = absurd (never_done h refl)
ran_same (stops h) (stops k) = (refl, (wrote_same h k).1)

pub inside_moved : (ws : List Write) (d d₁ : Disk) → blocks d₁ ≡ blocks d → Inside ws d → Inside ws d₁
inside_moved ws d d₁ e h = subst (λ n. AllByRecursion (λ w. w.block < n) ws) (sym e) h

-- after a refusal on a device that has the blocks, the device is offline
pub ran_offline :
    {ws : List Write} {d d' : Disk} {x : Fault} {es : List Event} → Ran ws d (Err x) es d' → Inside ws d → d'.online ≡ false
ran_offline (goes_on {ws = ws} {d = d} {d₁ = d₁} h r) n = ran_offline r (inside_moved ws d d₁ (wrote_blocks h) n.1)
ran_offline (stops (outside h)) n = absurd (let k = n.0 in omega arith)
ran_offline (stops (offline h o)) n = o
ran_offline (stops (lost m h o)) n = refl

pub ran_ok :
    {ws : List Write} {d d' : Disk} {es : List Event} → Ran ws d (Ok tt) es d' → Done ws d es d'
ran_ok finished = record { disk = refl; events = refl; inside = tt; needed = λ some. absurd (omega arith); kept = refl }
ran_ok (goes_on {w = w} {ws = ws} {d = d} (done h o) r) =
    let k = ran_ok r in
    let e = Some w.bytes in
    record {
      disk = k.disk;
      events = ap (λ l. write_done ∷ l) k.events;
      inside = (h, inside_moved ws (put d w.block e) d (sym (blocks_put d w.block e)) k.inside);
      needed = λ some. o;
      kept = k.kept;
    }

pub ran_err :
    {ws : List Write} {d d' : Disk} {x : Fault} {es : List Event} → Ran ws d (Err x) es d' → Inside ws d → d.online ≡ true →
    Lost ws d x es d'
ran_err (goes_on {w = w} {ws = ws} {d = d} (done h o) r) n on =
    let e = Some w.bytes in
    let k = ran_err r (inside_moved ws d (put d w.block e) (blocks_put d w.block e) n.1) o in
    record {
      before = w ∷ k.before;
      write = k.write;
      behind = k.behind;
      remains = k.remains;
      parts = ap (λ l. w ∷ l) k.parts;
      answer = k.answer;
      events = ap (λ l. write_done ∷ l) k.events;
      disk = k.disk;
    }
ran_err (stops (outside h)) n on = absurd (let k = n.0 in omega arith)
ran_err (stops (offline h o)) n on = absurd (both_ways _ o on)
ran_err (stops {w = w} {ws = ws} (lost m h o)) n on = record {
  before = [];
  write = w;
  behind = ws;
  remains = m;
  parts = refl;
  answer = refl;
  events = refl;
  disk = refl;
}

-- on an offline device that has the blocks nothing is done
pub ran_nothing :
    {ws : List Write} {d d' : Disk} {x : Fault} {es : List Event} → Ran ws d (Err x) es d' → Inside ws d → d.online ≡ false →
    (es ≡ []) × (d' ≡ d)
ran_nothing (goes_on (done h o) r) n off = absurd (both_ways _ off o)
ran_nothing (stops (outside h)) n off = absurd (let k = n.0 in omega arith)
ran_nothing (stops (offline h o)) n off = (refl, refl)
ran_nothing (stops (lost m h o)) n off = absurd (both_ways _ off o)

pub runs_as_told : RunsAsTold
runs_as_told = record {
  decided = λ ws d d₁ d₂ a b es r s. ran_same r s;
  others = λ ws d d' a es r k n. ran_other r k n;
  done = λ ws d d' es r. ran_ok r;
  last = puts_last;
  lost = λ ws d d' x es r n on. ran_err r n on;
  nothing = λ ws d d' x es r n off. ran_nothing r n off;
}

-- ---- which writes are in their blocks

pub landed_before : (k n : ℕ) (es : List Event) → n < k → landed (suc n) (replicate k write_done ++ es) ≡ true
landed_before zero n es h = absurd (omega arith)
landed_before (suc k) zero es h = refl
landed_before (suc k) (suc n) es h = landed_before k n es (omega arith)

pub landed_here : (k : ℕ) (e : Event) → landed (suc k) (replicate k write_done ++ (e ∷ [])) ≡ leaves_new e
landed_here zero e = refl
landed_here (suc k) e = landed_here k e

pub landed_behind : (k n : ℕ) (e : Event) → k < n → landed (suc n) (replicate k write_done ++ (e ∷ [])) ≡ false
landed_behind zero zero e h = absurd (omega arith)
landed_behind zero (suc n) e h = refl
landed_behind (suc k) zero e h = absurd (omega arith)
landed_behind (suc k) (suc n) e h = landed_behind k n e (omega arith)

-- ---- one write

ran_one :
    {d d' : Disk} {w : Write} {es : List Event} → Wrote d w.block w.bytes (Ok tt) es d' → Ran (w ∷ []) d (Ok tt) es d'
ran_one (done h o) = goes_on (done h o) finished

pub runs_one : {d d' : Disk} {w : Write} → Writes d w.block w.bytes (Ok tt) d' → Runs (w ∷ []) d (Ok tt) d'
runs_one h = runs (ran_one h.wrote)

pub runs_refused :
    {d d' : Disk} {w : Write} {x : DeviceError} {f : Fault} → Writes d w.block w.bytes (Err x) d' →
    f ≡ refusals.offline w.block → Runs (w ∷ []) d (Err f) d'
runs_refused {d} {d'} {w} h e = subst (λ f. Runs (w ∷ []) d (Err f) d') (sym e) (runs (stops h.wrote))

-- a write whose refusal is answered with its block
pub runs_answered :
    {d d' : Disk} {w : Write} (r : Result (Unit {0}) DeviceError) {a : Result (Unit {0}) Fault} → Writes d w.block w.bytes r d' →
    MatchResult r (λ x. a ≡ Ok x) (λ _. IsErrAnd a (λ f. f ≡ refusals.offline w.block)) → Runs (w ∷ []) d a d'
runs_answered {d} {d'} {w} (Ok tt) h e = subst (λ a. Runs (w ∷ []) d a d') (sym e) (runs_one h)
runs_answered {d} {d'} {w} (Err x) h e = subst (λ a. Runs (w ∷ []) d a d') (sym (exit_is e)) (runs_refused h refl)

-- the same write under another name
pub runs_as :
    {d d' : Disk} {v w : Write} {a : Result (Unit {0}) Fault} → v ≡ w → Runs (v ∷ []) d a d' → Runs (w ∷ []) d a d'
runs_as {d} {d'} {a = a} e r = subst (λ w. Runs (w ∷ []) d a d') e r

-- ---- loops: whatever finishes from here finishes from the start

abbrev pub Leads : List Write → Disk → List Write → Disk → Type 0
Leads ws d vs d₁ = (a : Result (Unit {0}) Fault) (d' : Disk) → Runs vs d₁ a d' → Runs ws d a d'

module _ {ws vs : List Write} {d d₁ : Disk} (leads : Leads ws d vs d₁) where
  pub leads_more : {d₂ : Disk} (w : Write) (rest : List Write) → vs ≡ w ∷ rest → Runs (w ∷ []) d₁ (Ok tt) d₂ → Leads ws d rest d₂
  leads_more w rest e r a d' s = leads a d' (subst (λ v. Runs v d₁ a d') (sym e) (runs_append r s))

  pub leads_stop :
      {d₂ : Disk} {a : Result (Unit {0}) Fault} {x : Fault} (w : Write) (rest : List Write) → vs ≡ w ∷ rest → a ≡ Err x →
      Runs (w ∷ []) d₁ (Err x) d₂ → Runs ws d a d₂
  leads_stop {d₂} {a} w rest e is r = leads a d₂ (subst (λ v. Runs v d₁ a d₂) (sym e) (runs_before rest is r))

  pub leads_end : vs ≡ [] → Runs ws d (Ok tt) d₁
  leads_end e = leads (Ok tt) d₁ (subst (λ v. Runs v d₁ (Ok tt) d₁) (sym e) (runs finished))

-- the after-images of the changes from i on: the first, and the others
pub images_more :
    (b next : ℕ) (ws : List Write) (i : ℕ) (z : Write) → i < length ws → next ≡ next_block b →
    images_from b (drop i ws) ≡ write_at b (get_or ws i z).bytes ∷ images_from next (drop (i + 1) ws)
images_more b next ws i z h e =
    ap (images_from b) (drop_more ws i z h)
    ∙ ap (λ k. write_at b (get_or ws i z).bytes ∷ images_from k (drop (i + 1) ws)) (sym e)
