-- One more call in the record of a disk in memory, and what a stop may have left then.
use Rattle.std.proofs.lemmas.Bool.{cases_lt, and_parts, and_from, le-leb, lt-ltb, eq-eqb}
use Rattle.std.proofs.lemmas.List.{map-append, take_all, take-append-le, length-append, same_lists, places}
use Rattle.std.proofs.lemmas.List.Elements.{All-head, All-tail, All-push, All-weaker}
use Rattle.std.proofs.Common.{rules, ◌≡◌, ℕ, ◌+◌, ◌*◌, ◌%◌, ◌^◌, ◌<◌, ◌≤◌, List, [], ◌∷◌, ◌++◌, length, take, drop, true, arith, refl, ◌∙◌, sym, ap, subst, inl, inr, All, nat_le, ◌==◌}
use Rattle.disk_base.specs.declared.memory.Effect.{Effect}
use Rattle.disk_base.specs.declared.memory.Effect.TheVariants.{Nothing, Write, Discard, Flush, Create}
use Rattle.disk_base.specs.Memory.{stops_from}
use Rattle.disk_base.specs.Past.{Event, Idle, Wrote, GaveUp, Flushed, Created, event_of, events_of, record_end, replayed, image_after, pending, Leaves, is_inside, are_inside}
use Rattle.disk_base.specs.Stops.{AreOf, Adds, Remembers, Waits}

-- the record of a write stays what it is when more bytes are written
event_stays : (written more : List ℕ) (effect : Effect) → record_end effect ≤ length written → event_of (written ++ more) effect ≡ event_of written effect
event_stays written more Nothing fits = refl
event_stays written more (Write at from n) fits =
    let same : take n (drop from (written ++ more)) ≡ take n (drop from written) = same_lists _ _ (search (rules, places)) (λ k d h. grind (arith, places)) in
    ap (Wrote at) same
event_stays written more (Discard at n) fits = refl
event_stays written more Flush fits = refl
event_stays written more (Create n) fits = refl

abbrev pub FitIn : List ℕ → List Effect → Type 0
FitIn written history = All (λ effect. record_end effect ≤ length written) history

events_stay : (written more : List ℕ) (history : List Effect) → FitIn written history → events_of (written ++ more) history ≡ events_of written history
events_stay written more [] fits = refl
events_stay written more (effect ∷ history) fits =
    let Fits : Effect → Type 0 = λ e. record_end e ≤ length written in
    let head = event_stays written more effect (All-head Fits effect history fits) in
    let tail = events_stay written more history (All-tail Fits effect history fits) in
    ap (λ e. e ∷ events_of (written ++ more) history) head ∙ ap (λ es. event_of written effect ∷ es) tail

-- one more call, which writes nothing
pub one_more : (written : List ℕ) (history : List Effect) (effect : Effect) → events_of written (history ++ effect ∷ []) ≡ events_of written history ++ event_of written effect ∷ []
one_more written history effect = map-append (event_of written) history (effect ∷ [])

-- one more write
pub one_more_write : (written bytes : List ℕ) (history : List Effect) (at : ℕ) → FitIn written history
    → events_of (written ++ bytes) (history ++ Write at (length written) (length bytes) ∷ []) ≡ events_of written history ++ Wrote at bytes ∷ []
one_more_write written bytes history at fits =
    let read : take (length bytes) (drop (length written) (written ++ bytes)) ≡ bytes = same_lists _ _ (search (rules, places)) (λ k d h. grind (arith, places)) in
    one_more (written ++ bytes) history (Write at (length written) (length bytes))
    ∙ ap (λ es. es ++ Wrote at (take (length bytes) (drop (length written) (written ++ bytes))) ∷ []) (events_stay written bytes history fits)
    ∙ ap (λ (b : List ℕ). events_of written history ++ Wrote at b ∷ []) read

pub fits_more : (written bytes : List ℕ) (history : List Effect) (effect : Effect) → record_end effect ≤ length written + length bytes → FitIn written history
    → FitIn (written ++ bytes) (history ++ effect ∷ [])
fits_more written bytes history effect small fits =
    let long = length-append written bytes in
    let Fits : Effect → Type 0 = λ e. record_end e ≤ length (written ++ bytes) in
    All-push Fits history effect (All-weaker (λ e. record_end e ≤ length written) Fits (λ e h. omega (arith, long)) history fits) (omega (arith, long))

-- what is held, what a stop may leave and whether all is inside, after one more call
pub image_more : (events : List Event) (event : Event) (image : List ℕ) → image_after (events ++ event ∷ []) image ≡ replayed (image_after events image) event
image_more [] event image = refl
image_more (e ∷ events) event image = image_more events event (replayed image e)

pub inside_more : (events : List Event) (event : Event) (image : List ℕ) → are_inside events image ≡ true → is_inside (image_after events image) event ≡ true
    → are_inside (events ++ event ∷ []) image ≡ true
inside_more [] event image inside here = and_from (is_inside image event) true here refl
inside_more (e ∷ events) event image inside here =
    let parts = and_parts (is_inside image e) (are_inside events (replayed image e)) inside in
    and_from (is_inside image e) (are_inside (events ++ event ∷ []) (replayed image e)) parts.0 (inside_more events event (replayed image e) parts.1 here)

pub leaves_more : (events : List Event) (event : Event) (image : List ℕ) (may_leave : List ℕ → Type 0) (c : List ℕ)
    → Leaves (events ++ event ∷ []) image may_leave c → pending (image_after events image) (Leaves events image may_leave) event c
leaves_more [] event image may_leave c left = left
leaves_more (e ∷ events) event image may_leave c left = leaves_more events event (replayed image e) (pending image may_leave e) c left

pub more_leaves : (events : List Event) (event : Event) (image : List ℕ) (may_leave : List ℕ → Type 0) (c : List ℕ)
    → pending (image_after events image) (Leaves events image may_leave) event c → Leaves (events ++ event ∷ []) image may_leave c
more_leaves [] event image may_leave c left = left
more_leaves (e ∷ events) event image may_leave c left = more_leaves events event (replayed image e) (pending image may_leave e) c left

-- the ghost fields of a disk with one more call in its record
pub fits_push : (written : List ℕ) (history new : List Effect) (effect : Effect) → new ≡ history ++ effect ∷ [] → record_end effect ≤ length written → FitIn written history
    → FitIn written new
fits_push written history new effect push small fits =
    subst (FitIn written) (sym push) (All-push (λ e. record_end e ≤ length written) history effect fits small)

pub inside_then : (events new : List Event) (event : Event) (first image : List ℕ) → new ≡ events ++ event ∷ [] → are_inside events first ≡ true
    → image_after events first ≡ image → is_inside image event ≡ true → are_inside new first ≡ true
inside_then events new event first image push inside replays here =
    ap (λ es. are_inside es first) push ∙ inside_more events event first inside (ap (λ i. is_inside i event) replays ∙ here)

pub replays_then : (events new : List Event) (event : Event) (first image : List ℕ) → new ≡ events ++ event ∷ [] → image_after events first ≡ image
    → image_after new first ≡ replayed image event
replays_then events new event first image push replays =
    ap (λ es. image_after es first) push ∙ image_more events event first ∙ ap (λ i. replayed i event) replays

-- what is tested of one more call
pub wrote_inside : (image : List ℕ) (at : ℕ) (bytes : List ℕ) → 512 * at + length bytes ≤ length image → length bytes % 512 ≡ 0
    → is_inside image (Wrote at bytes) ≡ true
wrote_inside image at bytes fits whole =
    and_from (nat_le (512 * at + length bytes) (length image)) (length bytes % 512 == 0) (le-leb _ _ fits) (eq-eqb _ _ whole)

pub gave_up_inside : (image : List ℕ) (at n : ℕ) → 512 * at + 512 * n ≤ length image → is_inside image (GaveUp at n) ≡ true
gave_up_inside image at n fits = le-leb _ _ fits

pub created_inside : (image : List ℕ) (n : ℕ) → 512 * n < 2 ^ 64 → is_inside image (Created n) ≡ true
created_inside image n fits = lt-ltb _ _ fits

-- what a stop leaves of a disk that held `first`, after one more call
module _ (first image : List ℕ) (past new : List Event) (event : Event) (calls then : ℕ)
    (push : new ≡ past ++ event ∷ [])
    (one : then ≡ calls + 1)
    (in_step : length past ≡ calls)
    (of : AreOf image (stops_from first past calls)) where
  abbrev LeavesOf : List Event → List ℕ → Type 0
  LeavesOf events c = Leaves events first (λ d. d ≡ first) c

  past_before : (k : ℕ) → k ≤ calls → take k new ≡ take k past
  past_before k early = ap (take k) push ∙ take-append-le k past (event ∷ []) (omega (arith, in_step))

  past_now : take (calls + 1) new ≡ past ++ event ∷ []
  past_now = ap (take (calls + 1)) push ∙ take_all (calls + 1) (past ++ event ∷ []) (omega (arith, in_step, length-append past (event ∷ [])))

  pub now : (c : List ℕ) → LeavesOf new c → pending (image_after past first) (LeavesOf past) event c
  now c left = leaves_more past event first (λ d. d ≡ first) c (subst (λ es. LeavesOf es c) push left)

  pub then_now : (c : List ℕ) → pending (image_after past first) (LeavesOf past) event c → LeavesOf new c
  then_now c left = subst (λ es. LeavesOf es c) (sym push) (more_leaves past event first (λ d. d ≡ first) c left)

  pub adds : Adds (pending (image_after past first) (LeavesOf past) event) (stops_from first past calls) (stops_from first new then)
  adds = record {
    later = omega (arith, one);
    only = λ t c early left. elim (cases_lt left.0 (calls + 1)) [
      | inl before ↦ inl (left.0, left.1, omega arith, subst (λ es. LeavesOf es c) (past_before left.0 (omega arith)) left.3)
      | inr late ↦
          let at : left.0 ≡ calls + 1 = omega (arith, one, left.2) in
          inr (leaves_more past event first (λ d. d ≡ first) c (subst (λ es. LeavesOf es c) (ap (λ k. take k new) at ∙ past_now) left.3))
    ];
  }

  pub remembers : Remembers (stops_from first past calls) (stops_from first new then)
  remembers t c early left = (left.0, left.1, omega (arith, one, left.2), subst (λ es. LeavesOf es c) (sym (past_before left.0 left.2)) left.3)

  -- where each image that the call may leave was one before, there is none more
  pub adds_none : ((c : List ℕ) → pending (image_after past first) (LeavesOf past) event c → LeavesOf past c)
      → Adds (λ c. ⊥) (stops_from first past calls) (stops_from first new then)
  adds_none fewer = record {
    later = adds.later;
    only = λ t c early left. elim (adds.only t c early left) [ inl before ↦ inl before | inr after ↦ inl (of.counts_now t c early (fewer c after)) ];
  }

-- a call that changed nothing
pub idled : (first image : List ℕ) (past new : List Event) (calls then : ℕ) → new ≡ past ++ Idle ∷ [] → then ≡ calls + 1 → length past ≡ calls
    → AreOf image (stops_from first past calls) → Waits (stops_from first past calls) (stops_from first new then)
idled first image past new calls then push one in_step of = record {
  adds = adds_none first image past new Idle calls then push one in_step of (λ c left. left);
  remembers = remembers first image past new Idle calls then push one in_step of;
  fewer = now first image past new Idle calls then push one in_step of;
  more = then_now first image past new Idle calls then push one in_step of;
}

-- a flush
pub flushed : (first image : List ℕ) (past new : List Event) (calls then : ℕ) → new ≡ past ++ Flushed ∷ [] → then ≡ calls + 1 → length past ≡ calls
    → AreOf image (stops_from first past calls) → image_after past first ≡ image → Adds (λ c. ⊥) (stops_from first past calls) (stops_from first new then)
flushed first image past new calls then push one in_step of replays =
    adds_none first image past new Flushed calls then push one in_step of
    (λ c is. let same : c ≡ image = is ∙ replays in subst (λ d. Leaves past first (λ e. e ≡ first) d) (sym same) of.holds)

-- a call that was not recorded, since there was no room
pub unrecorded : (first : List ℕ) (past : List Event) (calls then : ℕ) → calls ≤ then → length past ≤ calls
    → Waits (stops_from first past calls) (stops_from first past then)
unrecorded first past calls then later in_step = record {
  adds = record {
    later = later;
    only = λ t c early left. elim (cases_lt left.0 calls) [
      | inl before ↦ inl (left.0, left.1, omega arith, left.3)
      | inr late ↦
          let whole : take left.0 past ≡ take calls past = take_all left.0 past (omega (arith, in_step)) ∙ sym (take_all calls past in_step) in
          inl (calls, early, omega arith, subst (λ es. Leaves es first (λ d. d ≡ first) c) whole left.3)
    ];
  };
  remembers = λ t c early left. (left.0, left.1, omega (arith, left.2), left.3);
  fewer = λ c left. left;
  more = λ c left. left;
}
