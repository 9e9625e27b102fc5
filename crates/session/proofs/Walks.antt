-- The calls of a session one by one, each answer in its place of the table.
-- Assumes nothing.
use Rattle.std.proofs.Common.{◌≡◌, ℕ, ◌+◌, ◌-◌, ◌<◌, ◌≤◌, List, [], ◌∷◌, ◌++◌, length, get_or, take, drop, set, sym, refl, ap, ◌∙◌, subst, append_assoc, arith, length-append}
use Rattle.std.proofs.lemmas.List.{take_all, take_more, drop_more, set-append_right}
use Rattle.device.specs.Disk.{Disk, Event}
use Rattle.pairing.specs.Reservoir.{Reservoir}
use Rattle.session.specs.Asked.{Ended}
use Rattle.session.specs.Calls.{Kind, Call, Reply, DidCall}
use Rattle.session.specs.Runs.{Keeps, KindLaws}
use Rattle.session.specs.Steps.{Steps, none, after}
use Rattle.session.proofs.StepLaw.{step_law, steps_more}

-- an answer after those that the table has
set_next :
    {A : Type 0} (done table : List A) (i : ℕ) (a : A) → length done ≡ i → i < length table →
    set (done ++ drop i table) i a ≡ (done ++ (a ∷ [])) ++ drop (i + 1) table
set_next done table i a long more =
    let first : i - i ≡ 0 = omega arith in
    set-append_right done (drop i table) i i a long (omega arith)
    ∙ ap (λ k. done ++ set (drop i table) k a) first
    ∙ ap (λ l. done ++ set l 0 a) (drop_more table i a more)
    ∙ sym (append_assoc done (a ∷ []) (drop (i + 1) table))

module _ {X Y : Type 0} (own : Kind X) (other : Kind Y) (d : Disk) (page : List ℕ) (r : Reservoir X) (calls : List (Call X Y)) (table : List Reply) where
  -- after i of the calls
  pub record Walked (i : ℕ) (d₁ : Disk) (page₁ : List ℕ) (table₁ : List Reply) : Type 0 where
    pub reservoir : Reservoir X
    pub replies : List Reply
    pub events : List (List Event)
    pub steps : Steps own other d page r (take i calls) replies events d₁ page₁ reservoir
    pub keeps : Keeps own d₁ reservoir
    pub counted : length replies ≡ i
    pub tabled : table₁ ≡ replies ++ drop i table

  pub walked_none : Keeps own d r → Walked 0 d page table
  walked_none k = record { reservoir = r; replies = []; events = []; steps = none; keeps = k; counted = refl; tabled = refl }

  pub walked_more :
      KindLaws own → (own.code ≡ other.code → ⊥) → {i : ℕ} {d₁ d₂ : Disk} {page₁ page₂ : List ℕ} {table₁ : List Reply} {c : Call X Y} {a : Reply}
      {es : List Event} (z : Call X Y) → Walked i d₁ page₁ table₁ → i < length calls → length calls ≤ length table → c ≡ get_or calls i z →
      DidCall own other d₁ page₁ c a es d₂ page₂ → Walked (i + 1) d₂ page₂ (set table₁ i a)
  walked_more laws apart {i} {d₂ = d₂} {page₂ = page₂} {c = c} {a = a} {es = es} z w more room is did =
      let s = step_law own other laws apart w.keeps did in
      let long = w.counted in
      record {
        reservoir = after c es w.reservoir;
        replies = w.replies ++ (a ∷ []);
        events = w.events ++ (es ∷ []);
        steps =
            subst (λ cs. Steps own other d page r cs (w.replies ++ (a ∷ [])) (w.events ++ (es ∷ [])) d₂ page₂ (after c es w.reservoir))
            (ap (λ x. take i calls ++ (x ∷ [])) is ∙ sym (take_more calls i z more))
            (steps_more own other w.steps s.0);
        keeps = s.1;
        counted = length-append w.replies (a ∷ []) ∙ ap (λ n. n + 1) long;
        tabled = ap (λ t. set t i a) w.tabled ∙ set_next w.replies table i a long (omega arith);
      }

  -- all calls were made
  pub walked_all : {i : ℕ} {d' : Disk} {page' : List ℕ} {table' : List Reply} → Walked i d' page' table' → i ≡ length calls →
      Ended own other d page r calls table d' page' table'
  walked_all {i} {d'} {page'} w e = record {
    reservoir = w.reservoir;
    replies = w.replies;
    events = w.events;
    steps = subst (λ cs. Steps own other d page r cs w.replies w.events d' page' w.reservoir) (take_all i calls (omega arith)) w.steps;
    tabled = w.tabled ∙ ap (λ n. w.replies ++ drop n table) e;
  }
