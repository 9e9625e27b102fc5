-- Under how many draws of a store a group is the sample after it. Assumes nothing.
use Rattle.std.proofs.Common.{◌≡◌, ℕ, zero, suc, ◌+◌, ◌-◌, ◌*◌, ◌<◌, ◌≤◌, min, Bool, true, false, cond, not, ◌&&◌, ◌||◌, ltb, [], ◌∷◌, ◌++◌, length, get_or, sym, refl, ap, ◌∙◌, one-mul, mul-zero, zero-mul, arith}
use mathlib.Core.Bool.{beq}
use Rattle.std.proofs.lemmas.Bool.{lt-ltb, le-ltb}
use Rattle.pairing.specs.declared.Effect.{Effect}
use Rattle.pairing.specs.declared.Effect.TheVariants.{Enters, Replaces, StaysOut}
use Rattle.pairing.specs.Reservoir.{Slot, Reservoir, with, effect, placed, store}
use Rattle.pairing.specs.Rules.{bit, occurs, count_below}
use Rattle.pairing.proofs.Keeping.{Way, pairs_in, pairs_out, fills, replaces, passes}
use Rattle.pairing.proofs.Lawfulness.{tidy_stocked}
use Rattle.pairing.proofs.Stock.{with_same, by_packs}
use Rattle.words.proofs.Evenness.{total_like}
use Rattle.words.specs.Laws.{total}
use Rattle.fairness.specs.Laws.{holds}
use Rattle.fairness.proofs.Sums.{total_times, total_tail, total_below, total_above, every_false}
use Rattle.fairness.proofs.Slots.{holds_none, by_places}
use Rattle.fairness.proofs.Keeping.{Keeps, way_kept, breadth, breadth_due, breadth_fills, breadth_full}
use Rattle.fairness.proofs.Groups.{agree, bit_and, found_size, entered, stayed, replaced_in, replaced_out}

-- a test as it is, or turned
abbrev pub turn : Bool → Bool → Bool
turn true t = t
turn false t = not t

turn_true : (t : Bool) → turn t true ≡ t
turn_true true = refl
turn_true false = refl

turn_false : (t : Bool) → turn t false ≡ not t
turn_false true = refl
turn_false false = refl

turn_total : (t : Bool) (c n : ℕ) → total (λ x. bit (turn t (ltb x c))) n ≡ cond t (min c n) (n - c)
turn_total true c n = total_below c n
turn_total false c n = total_above c n

-- a pack in stock that the group lacks
abbrev pub lacks : (ℕ → Bool) → (ℕ → Bool) → ℕ → ℕ
lacks st a y = bit (st y && not (a y))

module _ {X : Type 0} (b m n d : ℕ) (st : ℕ → Bool) (r : Reservoir X) (k : Keeps b m n d st r) (p : ℕ) (item : X) (within : p < b) (off : st p ≡ false) (a : ℕ → Bool) where
  -- the group is the sample before, and after a store with the draw x
  abbrev pub before : ℕ
  before = bit (agree b st r.slots a)

  abbrev pub new : Slot X
  new = record { number = p; item = item }

  abbrev pub after : ℕ → ℕ
  after x = bit (agree b (with st p) (store r p item x 0).slots a)

  after_is : (x : ℕ) → after x ≡ bit (agree b (with st p) (placed (effect r x) r.slots new) a)
  unfolding store
  after_is x = refl

  abbrev pub size : ℕ
  size = count_below (λ q. st q && a q) b

  in_term : bit (agree b (with st p) (r.slots ++ new ∷ []) a) ≡ bit (a p) * before
  in_term = ap bit (entered b st r.slots k.slots p within off new a refl) ∙ bit_and (a p) (agree b st r.slots a)

  out_term : bit (agree b (with st p) r.slots a) ≡ bit (not (a p)) * before
  out_term = ap bit (stayed b st r.slots k.slots p within off a) ∙ bit_and (not (a p)) (agree b st r.slots a)

  -- ---- a deletion is compensated

  paired_term : (x : ℕ) {w : ℕ} (e : Effect) → Way m n r.c1 r.c2 x w e → 0 < r.c1 + r.c2 →
      bit (agree b (with st p) (placed e r.slots new) a) ≡ bit (turn (a p) (ltb x r.c1)) * before
  paired_term x Enters (pairs_in f g) some =
      in_term ∙ ap (λ t. bit t * before) (sym (ap (turn (a p)) (lt-ltb x r.c1 g) ∙ turn_true (a p)))
  paired_term x StaysOut (pairs_out f g) some =
      out_term ∙ ap (λ t. bit t * before) (sym (ap (turn (a p)) (le-ltb x r.c1 g) ∙ turn_false (a p)))
  paired_term x Enters (fills f g) some = absurd (omega arith)
  paired_term x (Replaces i) (replaces f g h) some = absurd (omega arith)
  paired_term x StaysOut (passes f g h) some = absurd (omega arith)

  abbrev pub share : Bool → ℕ
  share t = cond t (min m (n + d) - size) (d - (min m (n + d) - size))

  shares : (t : Bool) (z : Bool) → agree b st r.slots a ≡ z → cond t (min r.c1 d) (d - r.c1) * bit z ≡ share t * bit z
  shares t false e = mul-zero (cond t (min r.c1 d) (d - r.c1)) ∙ sym (mul-zero (share t))
  shares true true e =
      let s : length r.slots ≡ size = found_size b st r.slots k.slots k.stocked.low a e in
      ap (λ j. j * 1) {y = min m (n + d) - size} (omega (arith, k.filled, k.due))
  shares false true e =
      let s : length r.slots ≡ size = found_size b st r.slots k.slots k.stocked.low a e in
      ap (λ j. j * 1) {y = d - (min m (n + d) - size)} (omega (arith, k.filled, k.due))

  pub paired_total : 0 < d → total after (breadth m n d) ≡ share (a p) * before
  paired_total some =
      ap (total after) (breadth_due m n d some)
      ∙ total_like after (λ x. bit (turn (a p) (ltb x r.c1)) * before) d
      (λ x l. after_is x ∙ paired_term x (effect r x) (way_kept b m n d st r k p x) (omega (arith, k.due)))
      ∙ total_times (λ x. bit (turn (a p) (ltb x r.c1))) before d
      ∙ ap (λ j. j * before) (turn_total (a p) r.c1 d)
      ∙ shares (a p) (agree b st r.slots a) refl

  -- ---- the sample fills

  filling_term : (x : ℕ) {w : ℕ} (e : Effect) → Way m n r.c1 r.c2 x w e → r.c1 + r.c2 ≡ 0 → n < m →
      bit (agree b (with st p) (placed e r.slots new) a) ≡ bit (a p) * before
  filling_term x Enters (pairs_in f g) none l = absurd (omega arith)
  filling_term x StaysOut (pairs_out f g) none l = absurd (omega arith)
  filling_term x Enters (fills f g) none l = in_term
  filling_term x (Replaces i) (replaces f g h) none l = absurd (omega arith)
  filling_term x StaysOut (passes f g h) none l = absurd (omega arith)

  pub filling_total : d ≡ 0 → n < m → total after (breadth m n d) ≡ bit (a p) * before
  unfolding total
  filling_total none l =
      ap (total after) (breadth_fills m n d none l)
      ∙ omega (arith, after_is 0, filling_term 0 (effect r 0) (way_kept b m n d st r k p 0) (omega (arith, k.due)) l)

  -- ---- a full sample, and no deletion to compensate

  full : d ≡ 0 → m ≤ n → length r.slots ≡ m
  full none l = omega (arith, k.filled, k.due)

  out_full_term : (x : ℕ) {w : ℕ} (e : Effect) → Way m n r.c1 r.c2 x w e → d ≡ 0 → m ≤ n → a p ≡ false →
      bit (agree b (with st p) (placed e r.slots new) a) ≡ bit (not (ltb x m)) * before
  out_full_term x Enters (pairs_in f g) none l out = absurd (omega (arith, k.due))
  out_full_term x StaysOut (pairs_out f g) none l out = absurd (omega (arith, k.due))
  out_full_term x Enters (fills f g) none l out = absurd (omega arith)
  out_full_term x (Replaces i) (replaces f g h) none l out =
      ap bit (replaced_out b st r.slots k.slots p within off new refl x (omega (arith, full none l)) a out)
      ∙ sym (ap (λ t. bit (not t) * before) (lt-ltb x m h) ∙ zero-mul before)
  out_full_term x StaysOut (passes f g h) none l out =
      out_term ∙ ap (λ t. bit (not t) * before) out ∙ ap (λ t. bit (not t) * before) (sym (le-ltb x m h))

  pub out_full_total : d ≡ 0 → m ≤ n → a p ≡ false → total after (breadth m n d) ≡ (n + 1 - m) * before
  out_full_total none l out =
      ap (total after) (breadth_full m n d none l)
      ∙ total_like after (λ x. bit (not (ltb x m)) * before) (n + 1)
      (λ x lx. after_is x ∙ out_full_term x (effect r x) (way_kept b m n d st r k p x) none l out)
      ∙ total_times (λ x. bit (not (ltb x m))) before (n + 1)
      ∙ ap (λ j. j * before) (total_above m (n + 1))

  -- the pack y made room
  abbrev pub room : ℕ → ℕ
  room y = bit (not (a y) && agree b st r.slots (with a y))

  in_full_term : (x : ℕ) {w : ℕ} (e : Effect) → Way m n r.c1 r.c2 x w e → d ≡ 0 → m ≤ n → a p ≡ true → x < m →
      bit (agree b (with st p) (placed e r.slots new) a) ≡ room (get_or r.slots x new).number
  in_full_term x Enters (pairs_in f g) none l has lx = absurd (omega (arith, k.due))
  in_full_term x StaysOut (pairs_out f g) none l has lx = absurd (omega (arith, k.due))
  in_full_term x Enters (fills f g) none l has lx = absurd (omega arith)
  in_full_term x (Replaces i) (replaces f g h) none l has lx =
      ap bit (replaced_in b st r.slots k.slots p within off new refl x (omega (arith, full none l)) k.stocked.low a has)
  in_full_term x StaysOut (passes f g h) none l has lx = absurd (omega arith)

  in_full_past : (x : ℕ) {w : ℕ} (e : Effect) → Way m n r.c1 r.c2 x w e → d ≡ 0 → m ≤ n → a p ≡ true → m ≤ x →
      bit (agree b (with st p) (placed e r.slots new) a) ≡ 0
  in_full_past x Enters (pairs_in f g) none l has lx = absurd (omega (arith, k.due))
  in_full_past x StaysOut (pairs_out f g) none l has lx = absurd (omega (arith, k.due))
  in_full_past x Enters (fills f g) none l has lx = absurd (omega arith)
  in_full_past x (Replaces i) (replaces f g h) none l has lx = absurd (omega arith)
  in_full_past x StaysOut (passes f g h) none l has lx = out_term ∙ ap (λ t. bit (not t) * before) has ∙ zero-mul before

  room_term : (y : ℕ) → y < b → (t : Bool) → st y ≡ t → (o : ℕ) → occurs y r.slots ≡ o → o * room y ≡ bit (t && not (a y)) * bit (agree b st r.slots (with a y))
  room_term y l false e o f = ap (λ j. j * room y) {y = 0} (omega (arith, k.slots y, ap bit e)) ∙ zero-mul (room y) ∙ sym (zero-mul (bit (agree b st r.slots (with a y))))
  room_term y l true e zero f =
      zero-mul (room y)
      ∙ sym (ap (λ t. bit (not (a y)) * bit t)
      (every_false (λ q. not (st q) || beq (holds r.slots q) (with a y q)) y b l
      (ap (λ t. not t || beq (holds r.slots y) (with a y y)) e
      ∙ ap (λ h. beq h (with a y y)) (holds_none r.slots y f)
      ∙ ap (beq false) (with_same a y y refl)))
      ∙ mul-zero (bit (not (a y))))
  room_term y l true e (suc o) f =
      ap (λ j. j * room y) {y = 1} (omega (arith, k.slots y, ap bit e)) ∙ one-mul (room y) ∙ bit_and (not (a y)) (agree b st r.slots (with a y))

  pub in_full_total : d ≡ 0 → m ≤ n → a p ≡ true → total after (breadth m n d) ≡ total (λ y. lacks st a y * bit (agree b st r.slots (with a y))) b
  in_full_total none l has =
      ap (total after) (breadth_full m n d none l)
      ∙ total_tail after m (n + 1) (omega arith) (λ x lx above. after_is x ∙ in_full_past x (effect r x) (way_kept b m n d st r k p x) none l has above)
      ∙ total_like after (λ x. room (get_or r.slots x new).number) m
      (λ x lx. after_is x ∙ in_full_term x (effect r x) (way_kept b m n d st r k p x) none l has lx)
      ∙ ap (total (λ x. room (get_or r.slots x new).number)) (sym (full none l))
      ∙ by_places room r.slots new
      ∙ sym (by_packs room b r.slots (λ q some. k.stocked.low q (tidy_stocked r.slots st k.slots q some)))
      ∙ total_like (λ y. occurs y r.slots * room y) (λ y. lacks st a y * bit (agree b st r.slots (with a y))) b
      (λ y ly. room_term y ly (st y) refl (occurs y r.slots) refl)
