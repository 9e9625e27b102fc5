-- A mirror of two devices is a device.
use Rattle.std.proofs.Common.{◌≡◌, ℕ, zero, suc, ◌<◌, min, Bool, true, false, ◌&&◌, List, [], ◌∷◌, length, get_or, set, Ok, Err, Result, sym, refl, ap, ◌∙◌, subst, arith, Some, None}
use Rattle.std.proofs.lemmas.List.{set-set}
use Rattle.std.proofs.lemmas.Bool.{and_from, and_left, and_right}
use Rattle.std.specs.Result.{result_and}
use Rattle.device.specs.declared.DeviceError.{DeviceError}
use Rattle.device.specs.declared.DeviceError.TheVariants.{Offline}
use Rattle.device.specs.declared.Remains.{Remains}
use Rattle.device.specs.declared.Remains.TheVariants.{Old, New, Unreadable}
use Rattle.device.specs.Disk.{Entry, Disk, blocks, entry_at, put, turned, reading, left_by, Event, BroughtOnline, came, stayed, Writes, Brings}
use Rattle.device.specs.MirrorDisk.{preferred, merged, mirror_of, Copied, Ready, WroteBoth}
use Rattle.device.specs.MirrorDisk.{refused, copy_lost, left_lost, right_last, BroughtBoth, copied, nothing}
use Rattle.device.proofs.Disk.{turned_same, put_same, blocks_put, wrote_ok, wrote_err, writes_done, writes_lost, writes_refused, brings_done, brings_refused}
use Rattle.device.proofs.Disk.{reading_ok, reading_err, reading_offline, reading_online}

-- ---- its entries

length_merged : (ls rs : List Entry) → length (merged ls rs) ≡ min (length ls) (length rs)
length_merged [] rs = omega arith
length_merged (l ∷ ls) [] = omega arith
length_merged (l ∷ ls) (r ∷ rs) = omega (arith, length_merged ls rs)

get_d_merged : (ls rs : List Entry) (k : ℕ) (e : Entry) → k < length ls → k < length rs → get_or (merged ls rs) k e ≡ preferred (get_or ls k e) (get_or rs k e)
get_d_merged [] rs k e h m = absurd (omega arith)
get_d_merged (l ∷ ls) [] k e h m = absurd (omega arith)
get_d_merged (l ∷ ls) (r ∷ rs) zero e h m = refl
get_d_merged (l ∷ ls) (r ∷ rs) (suc k) e h m = get_d_merged ls rs k e (omega arith) (omega arith)

pub merged_set : (ls rs : List Entry) (b : ℕ) (x y : Entry) → merged (set ls b x) (set rs b y) ≡ set (merged ls rs) b (preferred x y)
merged_set [] rs b x y = refl
merged_set (l ∷ ls) [] zero x y = refl
merged_set (l ∷ ls) [] (suc b) x y = refl
merged_set (l ∷ ls) (r ∷ rs) zero x y = refl
merged_set (l ∷ ls) (r ∷ rs) (suc b) x y = ap (λ es. preferred l r ∷ es) (merged_set ls rs b x y)

pub blocks_mirror_of : (l r : Disk) → blocks (mirror_of l r) ≡ min (blocks l) (blocks r)
unfolding mirror_of
blocks_mirror_of l r = length_merged l.entries r.entries

pub entry_at_mirror_of : (l r : Disk) (b : ℕ) → b < blocks l → b < blocks r → entry_at (mirror_of l r) b ≡ preferred (entry_at l b) (entry_at r b)
unfolding mirror_of
entry_at_mirror_of l r b h m = get_d_merged l.entries r.entries b None h m

pub online_both : (l r : Disk) → l.online ≡ true → r.online ≡ true → (mirror_of l r).online ≡ true
unfolding mirror_of
online_both l r p q = and_from l.online r.online p q

pub offline_left : (l r : Disk) → l.online ≡ false → (mirror_of l r).online ≡ false
unfolding mirror_of
offline_left l r p = and_left l.online r.online p

pub offline_right : (l r : Disk) → r.online ≡ false → (mirror_of l r).online ≡ false
unfolding mirror_of
offline_right l r p = and_right l.online r.online p

-- ---- its reads

module _ (l r : Disk) (b : ℕ) (within : b < blocks (mirror_of l r)) where
  left_within : b < blocks l
  left_within = omega (arith, blocks_mirror_of l r)

  right_within : b < blocks r
  right_within = omega (arith, blocks_mirror_of l r)

  offline_refuses : (mirror_of l r).online ≡ false → (x : DeviceError) → x ≡ Offline → reading (mirror_of l r) b ≡ Err x
  offline_refuses o x e = reading_offline (mirror_of l r) b within o ∙ ap Err (sym e)

  -- a side that is offline refuses for the mirror
  pub left_refuses : (x : DeviceError) → Err x ≡ reading l b → reading (mirror_of l r) b ≡ Err x
  left_refuses x h =
      let p = reading_err l b x left_within h in
      offline_refuses (offline_left l r p.0) x p.1

  pub right_refuses : (x : DeviceError) → Err x ≡ reading r b → reading (mirror_of l r) b ≡ Err x
  right_refuses x h =
      let p = reading_err r b x right_within h in
      offline_refuses (offline_right l r p.0) x p.1

-- both sides' entries give the mirror's
pub both_read : (l r : Disk) (b : ℕ) (x y : Entry) → Ok x ≡ reading l b → Ok y ≡ reading r b → reading (mirror_of l r) b ≡ Ok (preferred x y)
both_read l r b x y h m =
    let p = reading_ok l b x h in
    let q = reading_ok r b y m in
    reading_online (mirror_of l r) b (omega (arith, blocks_mirror_of l r)) (online_both l r p.1 q.1)
    ∙ ap Ok (entry_at_mirror_of l r b p.0 q.0)
    ∙ ap Ok (λ i. preferred (sym p.2 i) (sym q.2 i))

pub both_ready : (l r : Disk) (b : ℕ) (x y : Entry) → Ok x ≡ reading l b → Ok y ≡ reading r b → Ready l r b
both_ready l r b x y h m =
    let p = reading_ok l b x h in
    let q = reading_ok r b y m in
    record { left_inside = p.0; right_inside = q.0; left_online = p.1; right_online = q.1 }

-- ---- its writes

-- a mirror with another entry in block b of each side
mirror_put :
    (l r : Disk) (b : ℕ) (x y : Entry) (o p : Bool) →
    mirror_of (turned (put l b x) o) (turned (put r b y) p) ≡ turned (put (mirror_of l r) b (preferred x y)) (o && p)
unfolding mirror_of
mirror_put l r b x y o p = λ i. record { entries = merged_set l.entries r.entries b x y i; online = o && p }

preferred_twice : (x y : Entry) → preferred x (preferred x y) ≡ preferred x y
preferred_twice (Some xs) y = refl
preferred_twice None y = refl

-- a lost write to the left, with the old entry on the right, leaves the mirror old or new
left_remains : Remains → Remains
left_remains Old = Old
left_remains New = New
left_remains Unreadable = Old

left_remains_is : (m : Remains) (x y : Entry) (new : List ℕ) → preferred (left_by m x new) (preferred x y) ≡ left_by (left_remains m) (preferred x y) new
unfolding left_remains
left_remains_is Old x y new = preferred_twice x y
left_remains_is New x y new = refl
left_remains_is Unreadable x y new = refl

-- a second write to a block replaces the first
put_again : (d : Disk) (b : ℕ) (x y : Entry) (o p : Bool) → turned (put (turned (put d b x) o) b y) p ≡ turned (put d b y) p
put_again d b x y o p = λ i. record { entries = set-set d.entries b x y i; online = p }

module _ {l r : Disk} {b : ℕ} (ready : Ready l r b) where
  within : b < blocks (mirror_of l r)
  within = omega (arith, blocks_mirror_of l r, ready.left_inside, ready.right_inside)

  online : (mirror_of l r).online ≡ true
  online = online_both l r ready.left_online ready.right_online

  old_is : entry_at (mirror_of l r) b ≡ preferred (entry_at l b) (entry_at r b)
  old_is = entry_at_mirror_of l r b ready.left_inside ready.right_inside

  left_same : l ≡ turned (put l b (entry_at l b)) true
  left_same = sym (turned_same (put l b (entry_at l b)) true ready.left_online ∙ put_same l b)

  left_done : {new : List ℕ} {l' : Disk} → Writes l b new (Ok tt) l' → l' ≡ turned (put l b (Some new)) true
  left_done {new} w = (wrote_ok w.wrote).3 ∙ sym (turned_same (put l b (Some new)) true ready.left_online)

  -- after the copy the right side holds the mirror's old entry
  copy_done : {x : Entry} {r₁ : Disk} → Copied r b x (Ok tt) r₁ → r₁ ≡ turned (put r b (preferred x (entry_at r b))) true
  copy_done (copied {xs} w) = (wrote_ok w.wrote).3 ∙ sym (turned_same (put r b (Some xs)) true ready.right_online)
  copy_done nothing = sym (turned_same (put r b (entry_at r b)) true ready.right_online ∙ put_same r b)

  -- where the copy is lost, the left side still holds the old entry
  copy_lost_lem :
      {new : List ℕ} {x : Entry} {e : DeviceError} {r' : Disk} → entry_at l b ≡ x → Copied r b x (Err e) r' →
      Writes (mirror_of l r) b new (Err e) (mirror_of l r')
  copy_lost_lem q (copied {xs} w) =
      let p = wrote_err w.wrote ready.right_inside ready.right_online in
      let z = left_by p.0 (entry_at r b) xs in
      let kept : preferred (entry_at l b) z ≡ entry_at (mirror_of l r) b =
      ap (λ y. preferred y z) q ∙ sym (old_is ∙ ap (λ y. preferred y (entry_at r b)) q) in
      writes_lost
      Old
      p.1
      within
      online
      ((λ i. mirror_of (left_same i) (p.3 i))
      ∙ mirror_put l r b (entry_at l b) z true false
      ∙ ap (λ y. turned (put (mirror_of l r) b y) false) kept)

  -- where the left write is lost, the right side still holds the old entry
  left_lost_lem :
      {new : List ℕ} {e : DeviceError} {r₁ l' : Disk} → Copied r b (entry_at l b) (Ok tt) r₁ →
      Writes l b new (Err e) l' → Writes (mirror_of l r) b new (Err e) (mirror_of l' r₁)
  left_lost_lem {new} c w =
      let p = wrote_err w.wrote ready.left_inside ready.left_online in
      let x = entry_at l b in
      let y = entry_at r b in
      let left : preferred (left_by p.0 x new) (preferred x y) ≡ left_by (left_remains p.0) (entry_at (mirror_of l r) b) new =
      left_remains_is p.0 x y new ∙ ap (λ e. left_by (left_remains p.0) e new) (sym old_is) in
      writes_lost
      (left_remains p.0)
      p.1
      within
      online
      ((λ i. mirror_of (p.3 i) (copy_done c i))
      ∙ mirror_put l r b (left_by p.0 x new) (preferred x y) false true
      ∙ ap (λ e. turned (put (mirror_of l r) b e) false) left)

  -- where the right write is done or lost, the left side holds the new bytes
  right_last_lem :
      {new : List ℕ} {r₁ l' r' : Disk} (a : Result (Unit {0}) DeviceError) → Copied r b (entry_at l b) (Ok tt) r₁ →
      Writes l b new (Ok tt) l' → Writes r₁ b new a r' → Writes (mirror_of l r) b new a (mirror_of l' r')
  right_last_lem {new} {r₁} {l'} {r'} (Ok u) c w v =
      let old = preferred (entry_at l b) (entry_at r b) in
      let right : r' ≡ turned (put r b (Some new)) true =
      (wrote_ok v.wrote).3
      ∙ ap (λ d. put d b (Some new)) (copy_done c)
      ∙ put_again r b old (Some new) true true in
      writes_done
      within
      online
      ((λ i. mirror_of (left_done w i) (right i))
      ∙ mirror_put l r b (Some new) (Some new) true true
      ∙ turned_same (put (mirror_of l r) b (Some new)) true online)
  right_last_lem {new} {r₁} {l'} {r'} (Err e) c w v =
      let old = preferred (entry_at l b) (entry_at r b) in
      let q = copy_done c in
      let room : b < blocks r₁ = omega (arith, ap blocks q, blocks_put r b old, ready.right_inside) in
      let p = wrote_err v.wrote room (ap (λ d. d.online) q) in
      let z = left_by p.0 (entry_at r₁ b) new in
      let right : r' ≡ turned (put r b z) false =
      p.3 ∙ ap (λ d. turned (put d b z) false) q ∙ put_again r b old z true false in
      writes_lost
      New
      p.1
      within
      online
      ((λ i. mirror_of (left_done w i) (right i)) ∙ mirror_put l r b (Some new) z true false)

-- a write to both sides is a write to the mirror
pub wrote_both :
    {l r : Disk} {b : ℕ} {new : List ℕ} {a : Result (Unit {0}) DeviceError} {l' r' : Disk} → WroteBoth l r b new a l' r' →
    Writes (mirror_of l r) b new a (mirror_of l' r')
wrote_both {l} {r} {b} {new} (refused h) = writes_refused (mirror_of l r) b new _ h
wrote_both {l} {r} {b} {new} (copy_lost ready c) = copy_lost_lem ready refl c
wrote_both {l} {r} {b} {new} (left_lost ready c w) = left_lost_lem ready c w
wrote_both {l} {r} {b} {new} {a} (right_last ready c w v) = right_last_lem ready a c w v

-- ---- bringing it online

mirror_turned : (l r : Disk) (o p : Bool) → mirror_of (turned l o) (turned r p) ≡ turned (mirror_of l r) (o && p)
unfolding mirror_of
mirror_turned l r o p = refl

brought_sides :
    {l r l' r' : Disk} {a c : Result (Unit {0}) DeviceError} {es fs : List Event} → BroughtOnline l a es l' → BroughtOnline r c fs r' →
    Brings (mirror_of l r) (result_and a c) (mirror_of l' r')
brought_sides {l} {r} came came = brings_done (mirror_turned l r true true)
brought_sides {l} {r} came stayed = brings_refused (mirror_turned l r true false)
brought_sides {l} {r} stayed came = brings_refused (mirror_turned l r false true)
brought_sides {l} {r} stayed stayed = brings_refused (mirror_turned l r false false)

-- bringing both sides online brings the mirror online
pub brought_both :
    {l r : Disk} {a : Result (Unit {0}) DeviceError} {l' r' : Disk} → BroughtBoth l r a l' r' → Brings (mirror_of l r) a (mirror_of l' r')
brought_both {l} {r} {a} {l'} {r'} t =
    subst (λ x. Brings (mirror_of l r) x (mirror_of l' r')) (sym t.answer) (brought_sides t.left.brought t.right.brought)

-- ---- the ways through a write to the mirror, by what the calls on its sides told

module _ (l r : Disk) (b : ℕ) (new : List ℕ) where
  pub left_offline :
      {x : DeviceError} {a : Result (Unit {0}) DeviceError} → b < blocks (mirror_of l r) → Err x ≡ reading l b → a ≡ Err x →
      WroteBoth l r b new a l r
  left_offline {x} h m e =
      subst (λ a. WroteBoth l r b new a l r) (sym e) (refused (left_refuses l r b h x m))

  pub right_offline :
      {x : DeviceError} {a : Result (Unit {0}) DeviceError} → b < blocks (mirror_of l r) → Err x ≡ reading r b → a ≡ Err x →
      WroteBoth l r b new a l r
  right_offline {x} h m e =
      subst (λ a. WroteBoth l r b new a l r) (sym e) (refused (right_refuses l r b h x m))

  module _ (old y : Entry) (left : Ok old ≡ reading l b) (right : Ok y ≡ reading r b) where
    old_copied : {a : Result (Unit {0}) DeviceError} {r₁ : Disk} → Copied r b old a r₁ → Copied r b (entry_at l b) a r₁
    old_copied {a} {r₁} c = subst (λ x. Copied r b x a r₁) (reading_ok l b old left).2 c

    pub ends_copy :
        {x : DeviceError} {a : Result (Unit {0}) DeviceError} {r' : Disk} → Copied r b old (Err x) r' → a ≡ Err x →
        WroteBoth l r b new a l r'
    ends_copy {r' = r'} c e =
        subst (λ a. WroteBoth l r b new a l r') (sym e) (copy_lost (both_ready l r b old y left right) (old_copied c))

    pub ends_left :
        {x : DeviceError} {a : Result (Unit {0}) DeviceError} {r₁ l' : Disk} → Copied r b old (Ok tt) r₁ →
        Writes l b new (Err x) l' → a ≡ Err x → WroteBoth l r b new a l' r₁
    ends_left {r₁ = r₁} {l' = l'} c w e =
        subst
        (λ a. WroteBoth l r b new a l' r₁)
        (sym e)
        (left_lost (both_ready l r b old y left right) (old_copied c) w)

    pub ends_right :
        {a : Result (Unit {0}) DeviceError} {r₁ l' r' : Disk} → Copied r b old (Ok tt) r₁ → Writes l b new (Ok tt) l' →
        Writes r₁ b new a r' → WroteBoth l r b new a l' r'
    ends_right c w v = right_last (both_ready l r b old y left right) (old_copied c) w v
