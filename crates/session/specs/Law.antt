-- The law of every run: what any session on any device finds, and that no group of packs is favoured.
-- Assumes nothing.
use Rattle.std.specs.Prelude.{◌≡◌, ℕ, ◌-◌, ◌<◌, ◌≤◌, Bool, true, cond, List, [], ◌∷◌, ◌++◌, map, length, Some, None, Ok, Option, nat_lt, slice_index}
use Rattle.device.specs.Disk.{Disk, Event, blocks}
use Rattle.octets.specs.Zeros.{zeros}
use Rattle.pairing.specs.Reservoir.{Reservoir, empty}
use Rattle.fairness.specs.Histories as history
use Rattle.fairness.specs.Histories.{draw_lists, count, widths}
use Rattle.fairness.specs.Laws.{found, weight_of}
use Rattle.plans.specs.Recovery.{Rests}
use Rattle.plans.specs.declared.Opened.{Opened}
use Rattle.session.specs.Calls.{Kind, Request, Store, Take, Report, Open, Call, Own, Other, Reply}
use Rattle.session.specs.Failures.{Plan, ByPlan}
use Rattle.session.specs.Steps.{Steps, is_committed}
use Rattle.session.specs.declared.Answer.TheVariants as answer

-- ---- fairness

-- calls whose Stores have no source yet, and the same calls with one tape for all
abbrev pub drawing : {X : Type 0} → (ℕ → Option ℕ) → Request X → Request X
drawing words (Store number item w) = Store number item words
drawing words (Take number) = Take number
drawing words Report = Report
drawing words Open = Open

abbrev pub drawing_call : {X Y : Type 0} → (ℕ → Option ℕ) → Call X Y → Call X Y
drawing_call words (Own q) = Own (drawing words q)
drawing_call words (Other q) = Other (drawing words q)

-- the words of a tape
abbrev pub words_of : List ℕ → ℕ → Option ℕ
words_of tape n = cond (nat_lt n (length tape)) (Some (slice_index tape n)) None

-- the committed Stores and Takes, by the events of each call
abbrev pub committed_call : {X Y : Type 0} → Call X Y → List (history.Call X)
committed_call (Own (Store number item words)) = history.Store number item ∷ []
committed_call (Own (Take number)) = history.Take number ∷ []
committed_call (Own Report) = []
committed_call (Own Open) = []
committed_call (Other q) = []

abbrev pub committed_calls : {X Y : Type 0} → List (Call X Y) → List (List Event) → List (history.Call X)
committed_calls [] ess = []
committed_calls (c ∷ cs) [] = []
committed_calls (c ∷ cs) (es ∷ ess) = cond (is_committed es) (committed_call c) [] ++ committed_calls cs ess

-- the widths above 1, in their order
abbrev pub above_one : List ℕ → List ℕ
above_one [] = []
above_one (w ∷ ws) = cond (nat_lt 1 w) (w ∷ above_one ws) (above_one ws)

-- a draw list for widths: each draw is below its width
pub data Below : List ℕ → List ℕ → Type 0 where
  none : Below [] []
  next : {w d : ℕ} {ws ds : List ℕ} → d < w → Below ws ds → Below (w ∷ ws) (d ∷ ds)

-- as a tape of n words: the draws, and zeros behind
abbrev pub tape_of : ℕ → List ℕ → List ℕ
tape_of n ds = ds ++ zeros (n - length ds)

abbrev pub joined_events : List (List Event) → List Event
joined_events [] = []
joined_events (es ∷ ess) = es ++ joined_events ess

module _ {X Y : Type 0} (own : Kind X) (other : Kind Y) where
  -- a Make of capacity m was done on the disk
  pub record Made (d : Disk) (m : ℕ) : Type 0 where
    pub rests : Rests own.code own.form own.reading d (empty m)
    pub online : d.online ≡ true
    pub large : 78 ≤ blocks d
    pub least : 1 ≤ m
    pub most : m ≤ 512

  -- the calls by a failure plan, all Stores drawing from one tape
  pub record Session (plan : Plan) (tape : List ℕ) (d : Disk) (page : List ℕ) (m : ℕ) (calls : List (Call X Y)) : Type 0 where
    pub replies : List Reply
    pub events : List (List Event)
    pub disk : Disk
    pub filled : List ℕ
    pub reservoir : Reservoir X
    pub steps : Steps own other d page (empty m) (map (drawing_call (words_of tape)) calls) replies events disk filled reservoir
    pub planned : ByPlan plan 0 0 (joined_events events)

  -- what two sessions agree in
  pub record Agree {plan plan' : Plan} {tape tape' : List ℕ} {d : Disk} {page : List ℕ} {m : ℕ} {calls : List (Call X Y)}
      (s : Session plan tape d page m calls) (t : Session plan' tape' d page m calls) : Type 0 where
    pub replies : s.replies ≡ t.replies
    pub events : s.events ≡ t.events
    pub reservoir : s.reservoir ≡ t.reservoir
    pub disk : s.disk ≡ t.disk

  -- The calls end with an Open for the register's kind, which is done when the tape is all zeros. By the events of that session the
  -- committed calls, and by them the draw lists, are told.
  module _ (plan : Plan) (d : Disk) (page : List ℕ) (m : ℕ) (made : Made d m) (before : List (Call X Y)) (n : ℕ) where
    abbrev pub calls : List (Call X Y)
    calls = before ++ (Own Open ∷ [])

    module _ (zero : Session plan (zeros n) d page m calls) (o : Opened) (replies : List Reply)
        (done : zero.replies ≡ replies ++ (Ok (answer.Opened o) ∷ [])) where
      abbrev pub committed : List (history.Call X)
      committed = committed_calls calls zero.events

      abbrev pub drawn : List ℕ
      drawn = above_one (widths m 0 0 committed)

      pub record Fair : Type 0 where
        -- each draw list has a session by the plan
        pub exists : (ds : List ℕ) → Below drawn ds → Session plan (tape_of n ds) d page m calls
        -- and only one
        pub unique : (ds : List ℕ) → Below drawn ds → (s t : Session plan (tape_of n ds) d page m calls) → Agree s t
        -- with the same committed calls
        pub same : (ds : List ℕ) → Below drawn ds → (s : Session plan (tape_of n ds) d page m calls) → committed_calls calls s.events ≡ committed
        -- two groups of packs are found under equally many draw lists exactly when their weights are equal
        pub even :
            (final : List ℕ → Reservoir X) →
            ((ds : List ℕ) → Below drawn ds → (s : Session plan (tape_of n ds) d page m calls) → final ds ≡ s.reservoir) →
            (a b : ℕ → Bool) →
            (count (λ ds. found a (final ds)) (draw_lists drawn) ≡ count (λ ds. found b (final ds)) (draw_lists drawn) →
            weight_of m committed a ≡ weight_of m committed b)
            × (weight_of m committed a ≡ weight_of m committed b →
            count (λ ds. found a (final ds)) (draw_lists drawn) ≡ count (λ ds. found b (final ds)) (draw_lists drawn))

  -- for every plan, disk, list of calls and length of tape
  abbrev pub Fairness : Type 0
  Fairness =
      (plan : Plan) (d : Disk) (page : List ℕ) (m : ℕ) (made : Made d m) (before : List (Call X Y)) (n : ℕ)
      (zero : Session plan (zeros n) d page m (before ++ (Own Open ∷ []))) (o : Opened) (replies : List Reply)
      (done : zero.replies ≡ replies ++ (Ok (answer.Opened o) ∷ [])) → Fair plan d page m made before n zero o replies done
