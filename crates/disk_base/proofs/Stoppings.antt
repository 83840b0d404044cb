-- The image that is given for a stop inside a call is one that such a stop may leave.
use Rattle.std.proofs.Math.ListN.{get_or-map}
use Rattle.std.proofs.Math.Seq.{take-suc}
use Rattle.std.proofs.lemmas.Bool.{cases_lt, and_parts, and_from, leb-true, ltb-true, eqb-true, false≢true}
use Rattle.std.proofs.lemmas.List.{take_all, same_lists, places, length-take, length-drop, length-map, take-map, drop-map, length-replicate, take-append-drop, drop-append-le, get_or-take, get_or-drop, get_or_past, get_or_default}
use Rattle.std.proofs.Common.{rules, ◌≡◌, ℕ, ◌+◌, ◌-◌, ◌*◌, ◌/◌, ◌%◌, ◌<◌, ◌≤◌, min, List, [], ◌∷◌, ◌++◌, length, take, drop, replicate, true, false, arith, refl, ◌∙◌, sym, ap, subst, inl, inr, slice_index_or, suc, zero, ◌==◌, nat_le, All}
use Rattle.disk_base.specs.declared.memory.Effect.{Effect}
use Rattle.disk_base.specs.declared.memory.Effect.TheVariants.{Nothing}
use Rattle.disk_base.specs.Image.{with_bytes, sector, AgreesOutside, HalfWritten}
use Rattle.disk_base.specs.Past.{Event, Idle, Wrote, GaveUp, Flushed, Created, event_of, events_of, replayed, image_after, pending, Leaves, is_inside, are_inside, is_created}
use Rattle.disk_base.specs.inside.Calls.{IsCallInside}
use Rattle.disk_base.specs.Replays.{leaves_held}
use Rattle.disk_base.specs.Stopped.{event_at, meanwhile, LeftInside, settles, IsLasting, IsStopped, touched, cut_short, kept_calls}
use Rattle.disk_base.proofs.Images.{range_in_range, length-with_bytes, agrees_with_bytes, bytes_written, bytes_behind}
use Rattle.disk_base.specs.Memory.{LeftSince}
use Rattle.disk_base.proofs.Replaying.{image_more, more_leaves}

-- what the loops keep
pub record Goes (within so_far : Type 0) : Type 0 where
  pub bound : within
  pub holds : so_far

pub record Lasts (within below so_far : Type 0) : Type 0 where
  pub bound : within
  pub order : below
  pub holds : so_far

pub record Keeps (within so_far left length : Type 0) : Type 0 where
  pub bound : within
  pub holds : so_far
  pub rest : left
  pub long : length

pub inside_is : (image : List ℕ) (event : Event) → is_inside image event ≡ true → IsCallInside image event
inside_is image Idle test = tt
inside_is image (Wrote at bytes) test =
    let parts = and_parts (nat_le (512 * at + length bytes) (length image)) (length bytes % 512 == 0) test in
    (leb-true _ _ parts.0, eqb-true _ _ parts.1)
inside_is image (GaveUp at n) test = leb-true _ _ test
inside_is image Flushed test = tt
inside_is image (Created n) test = ltb-true _ _ test

-- a call that is inside one disk is inside another of the same length
pub inside_same : (image other : List ℕ) (event : Event) → length other ≡ length image → IsCallInside image event → IsCallInside other event
inside_same image other Idle same inside = tt
inside_same image other (Wrote at bytes) same inside = (omega (arith, same, inside.0), inside.1)
inside_same image other (GaveUp at n) same inside = omega (arith, same, inside)
inside_same image other Flushed same inside = tt
inside_same image other (Created n) same inside = inside

-- how long a disk is after a call or its first sectors
pub length_replayed : (image : List ℕ) (event : Event) → is_created event ≡ false → IsCallInside image event → length (replayed image event) ≡ length image
length_replayed image Idle no_create inside = refl
length_replayed image (Wrote at bytes) no_create inside = length-with_bytes image (512 * at) bytes inside.0
length_replayed image (GaveUp at n) no_create inside =
    let long = length-replicate {A = ℕ} (512 * n) 0xA5 in
    length-with_bytes image (512 * at) (replicate (512 * n) 0xA5) (omega (arith, inside, long))
length_replayed image Flushed no_create inside = refl
length_replayed image (Created n) no_create inside = absurd (false≢true (sym no_create))

pub length_cut : (keep fill : ℕ) (image : List ℕ) (event : Event) → IsCallInside image event → length (cut_short keep fill image event) ≡ length image
length_cut keep fill image Idle inside = refl
length_cut keep fill image (Wrote at bytes) inside =
    let piece = take (512 * min keep (length bytes / 512)) bytes in
    let short : length piece ≤ length bytes = search (rules, places) in
    length-with_bytes image (512 * at) piece (omega (arith, inside.0, short))
length_cut keep fill image (GaveUp at n) inside =
    let long = length-replicate {A = ℕ} (512 * min keep n) fill in
    length-with_bytes image (512 * at) (replicate (512 * min keep n) fill) (omega (arith, inside, long))
length_cut keep fill image Flushed inside = refl
length_cut keep fill image (Created n) inside = refl

-- what a call did, from the record
pub event_of_at : (written : List ℕ) (history : List Effect) (i : ℕ) → event_at (events_of written history) i ≡ event_of written (slice_index_or history i Nothing)
event_of_at written history i = get_or-map (event_of written) history i Nothing

-- what is lasting of these calls
pub settles_lasting : (past : List Event) (i : ℕ) → settles (event_at past i) ≡ true → IsLasting past (i + 1) (i + 1)
settles_lasting past i ends = record {
  bound = omega arith;
  settled = inr (omega arith, let same : i + 1 - 1 ≡ i = omega arith in ap (λ n. settles (event_at past n)) same ∙ ends);
  none_since = λ j low high. absurd (omega arith);
}

pub still_lasting : (past : List Event) (i lasting : ℕ) → settles (event_at past i) ≡ false → IsLasting past i lasting → IsLasting past (i + 1) lasting
still_lasting past i lasting goes is = record {
  bound = omega (arith, is.bound);
  settled = is.settled;
  none_since = λ j low high. elim (cases_lt j i) [
    | inl before ↦ is.none_since j low before
    | inr here ↦ let same : j ≡ i = omega arith in ap (λ n. settles (event_at past n)) same ∙ goes
  ];
}

pub none_lasting : (past : List Event) → IsLasting past 0 0
none_lasting past = record { bound = omega arith; settled = inl refl; none_since = λ j low high. absurd (omega arith) }

-- each call is inside what the ones before it left
pub inside_at : (events : List Event) (image : List ℕ) (i : ℕ) (d : Event) → i < length events → are_inside events image ≡ true
    → IsCallInside (image_after (take i events) image) (slice_index_or events i d)
inside_at [] image i d small inside = absurd (omega arith)
inside_at (event ∷ events) image zero d small inside =
    let parts = and_parts (is_inside image event) (are_inside events (replayed image event)) inside in inside_is image event parts.0
inside_at (event ∷ events) image (suc i) d small inside =
    let parts = and_parts (is_inside image event) (are_inside events (replayed image event)) inside in
    inside_at events (replayed image event) i d (omega arith) parts.1

pub take_step : (events : List Event) (i : ℕ) (d : Event) → i < length events → take (i + 1) events ≡ take i events ++ slice_index_or events i d ∷ []
take_step events i d small = let next : i + 1 ≡ suc i = omega arith in ap (λ n. take n events) next ∙ take-suc events i d small

pub image_step : (events : List Event) (image : List ℕ) (i : ℕ) (d : Event) → i < length events
    → image_after (take (i + 1) events) image ≡ replayed (image_after (take i events) image) (slice_index_or events i d)
image_step events image i d small =
    ap (λ es. image_after es image) (take_step events i d small) ∙ image_more (take i events) (slice_index_or events i d) image

-- how many sectors are left to keep after these calls
abbrev pub still : List Event → ℕ → ℕ
still [] keep = keep
still (event ∷ events) keep = still events (keep - touched event)

still_more : (events : List Event) (event : Event) (keep : ℕ) → still (events ++ event ∷ []) keep ≡ still events keep - touched event
still_more [] event keep = refl
still_more (e ∷ events) event keep = still_more events event (keep - touched e)

pub kept_more : (events : List Event) (event : Event) (keep fill : ℕ) (image : List ℕ)
    → kept_calls (events ++ event ∷ []) keep fill image ≡ cut_short (still events keep) fill (kept_calls events keep fill image) event
kept_more [] event keep fill image = refl
kept_more (e ∷ events) event keep fill image = kept_more events event (keep - touched e) fill (cut_short keep fill image e)

pub still_step : (events : List Event) (i : ℕ) (d : Event) (keep : ℕ) → i < length events → still (take (i + 1) events) keep ≡ still (take i events) keep - touched (slice_index_or events i d)
still_step events i d keep small = ap (λ es. still es keep) (take_step events i d small) ∙ still_more (take i events) (slice_index_or events i d) keep

pub kept_step : (events : List Event) (i : ℕ) (d : Event) (keep fill : ℕ) (image : List ℕ) → i < length events
    → kept_calls (take (i + 1) events) keep fill image ≡ cut_short (still (take i events) keep) fill (kept_calls (take i events) keep fill image) (slice_index_or events i d)
kept_step events i d keep fill image small = ap (λ es. kept_calls es keep fill image) (take_step events i d small) ∙ kept_more (take i events) (slice_index_or events i d) keep fill image

sector_of_front : (bytes : List ℕ) (m k : ℕ) → 512 * k + 512 ≤ 512 * m → 512 * m ≤ length bytes → sector (take (512 * m) bytes) k ≡ sector bytes k
sector_of_front bytes m k low few = range_in_range bytes 0 (512 * m) (512 * k) 512 (512 * k) (omega arith) low (omega arith)

-- the first sectors of a write are one of the ways in which a stop may cut it short
half_cut : (image : List ℕ) (at m : ℕ) (bytes : List ℕ) → 512 * at + length bytes ≤ length image → length bytes % 512 ≡ 0 → 512 * m ≤ length bytes
    → HalfWritten at bytes image (with_bytes image (512 * at) (take (512 * m) bytes))
half_cut image at m bytes fits whole few =
    let piece = take (512 * m) bytes in
    let long : length piece ≡ 512 * m = search (rules, places) in
    let agrees = agrees_with_bytes image (512 * at) (512 * m) piece (sym long) (omega arith) in
    record {
      outside = record { same_length = agrees.same_length; before = agrees.before; after = λ i far. agrees.after i (omega arith) };
      within = λ k small. elim (cases_lt k m) [
        | inl low ↦ inr (bytes_written image (512 * at) piece (512 * (at + k)) 512 (512 * k) (omega arith) (omega (arith, long)) (omega (arith, long))
            ∙ sector_of_front bytes m k (omega arith) few)
        | inr high ↦ inl (bytes_behind image (512 * at) piece (512 * (at + k)) 512 (omega (arith, long)) (omega (arith, long)))
      ];
    }

gave_up_cut : (image : List ℕ) (at n m fill : ℕ) → 512 * at + 512 * n ≤ length image → m ≤ n
    → AgreesOutside (512 * at) (512 * n) image (with_bytes image (512 * at) (replicate (512 * m) fill))
gave_up_cut image at n m fill fits few =
    let long = length-replicate {A = ℕ} (512 * m) fill in
    let agrees = agrees_with_bytes image (512 * at) (512 * m) (replicate (512 * m) fill) (sym long) (omega arith) in
    record { same_length = agrees.same_length; before = agrees.before; after = λ i far. agrees.after i (omega arith) }

-- a call as far as some sectors is one of the ways in which a stop after it, or inside it, may leave it
pending_cut : (real image : List ℕ) (may_leave : List ℕ → Type 0) (keep fill : ℕ) (event : Event) → settles event ≡ false → IsCallInside image event → may_leave image
    → pending real may_leave event (cut_short keep fill image event)
pending_cut real image may_leave keep fill Idle none inside holds = holds
pending_cut real image may_leave keep fill (Wrote at bytes) none inside holds =
    (image, holds, half_cut image at (min keep (length bytes / 512)) bytes inside.0 inside.1 (omega (arith, inside.1)))
pending_cut real image may_leave keep fill (GaveUp at n) none inside holds = (image, holds, gave_up_cut image at n (min keep n) fill inside (omega arith))
pending_cut real image may_leave keep fill Flushed none inside holds = absurd (false≢true (sym none))
pending_cut real image may_leave keep fill (Created n) none inside holds = absurd (false≢true (sym none))

meanwhile_cut : (image : List ℕ) (may_leave : List ℕ → Type 0) (keep fill : ℕ) (event : Event) → IsCallInside image event → may_leave image
    → meanwhile may_leave event (cut_short keep fill image event)
meanwhile_cut image may_leave keep fill Idle inside holds = holds
meanwhile_cut image may_leave keep fill (Wrote at bytes) inside holds =
    (image, holds, half_cut image at (min keep (length bytes / 512)) bytes inside.0 inside.1 (omega (arith, inside.1)))
meanwhile_cut image may_leave keep fill (GaveUp at n) inside holds = (image, holds, gave_up_cut image at n (min keep n) fill inside (omega arith))
meanwhile_cut image may_leave keep fill Flushed inside holds = holds
meanwhile_cut image may_leave keep fill (Created n) inside holds = holds

not_created : (event : Event) → settles event ≡ false → is_created event ≡ false
not_created Idle none = refl
not_created (Wrote at bytes) none = refl
not_created (GaveUp at n) none = refl
not_created Flushed none = refl
not_created (Created n) none = absurd (false≢true (sym none))

abbrev NoneSettles : List Event → Type 0
NoneSettles events = (i : ℕ) → i < length events → settles (event_at events i) ≡ false

-- so are calls of which none left all before it lasting
kept_length : (events : List Event) (real image : List ℕ) (keep fill : ℕ) → NoneSettles events → are_inside events real ≡ true → length image ≡ length real
    → length (kept_calls events keep fill image) ≡ length (image_after events real)
kept_length [] real image keep fill none inside same = same
kept_length (event ∷ events) real image keep fill none inside same =
    let parts = and_parts (is_inside real event) (are_inside events (replayed real event)) inside in
    let here = inside_is real event parts.0 in
    let goes : settles event ≡ false = none 0 (omega arith) in
    kept_length events (replayed real event) (cut_short keep fill image event) (keep - touched event) fill (λ i small. none (suc i) (omega arith)) parts.1
    (length_cut keep fill image event (inside_same real image event same here) ∙ same ∙ sym (length_replayed real event (not_created event goes) here))

kept_leaves : (events : List Event) (real image : List ℕ) (may_leave : List ℕ → Type 0) (keep fill : ℕ) → NoneSettles events → are_inside events real ≡ true
    → length image ≡ length real → may_leave image → Leaves events real may_leave (kept_calls events keep fill image)
kept_leaves [] real image may_leave keep fill none inside same holds = holds
kept_leaves (event ∷ events) real image may_leave keep fill none inside same holds =
    let parts = and_parts (is_inside real event) (are_inside events (replayed real event)) inside in
    let here = inside_is real event parts.0 in
    let goes : settles event ≡ false = none 0 (omega arith) in
    let here_too = inside_same real image event same here in
    kept_leaves events (replayed real event) (cut_short keep fill image event) (pending real may_leave event) (keep - touched event) fill
    (λ i small. none (suc i) (omega arith)) parts.1
    (length_cut keep fill image event here_too ∙ same ∙ sym (length_replayed real event (not_created event goes) here))
    (pending_cut real image may_leave keep fill event goes here_too holds)

leaves_append : (before events : List Event) (image : List ℕ) (may_leave : List ℕ → Type 0) (c : List ℕ)
    → Leaves events (image_after before image) (Leaves before image may_leave) c → Leaves (before ++ events) image may_leave c
leaves_append [] events image may_leave c left = left
leaves_append (event ∷ before) events image may_leave c left = leaves_append before events (replayed image event) (pending image may_leave event) c left

image_append : (before events : List Event) (image : List ℕ) → image_after (before ++ events) image ≡ image_after events (image_after before image)
image_append [] events image = refl
image_append (event ∷ before) events image = image_append before events (replayed image event)

pub inside_append : (before events : List Event) (image : List ℕ) → are_inside (before ++ events) image ≡ true
    → (are_inside before image ≡ true) × (are_inside events (image_after before image) ≡ true)
inside_append [] events image inside = (refl, inside)
inside_append (event ∷ before) events image inside =
    let parts = and_parts (is_inside image event) (are_inside (before ++ events) (replayed image event)) inside in
    let rest = inside_append before events (replayed image event) parts.1 in
    (and_from (is_inside image event) (are_inside before (replayed image event)) parts.0 rest.0, rest.1)

-- a part of the calls, in two parts
split_at : (past : List Event) (lasting end : ℕ) → lasting ≤ end → take end past ≡ take lasting past ++ drop lasting (take end past)
split_at past lasting end low =
    let front : take lasting (take end past) ≡ take lasting past = same_lists _ _ (search (rules, places)) (λ i d h. grind (arith, places)) in
    sym (take-append-drop lasting (take end past)) ∙ ap (λ es. es ++ drop lasting (take end past)) front

pub inside_between : (past : List Event) (first : List ℕ) (lasting end : ℕ) → lasting ≤ end → are_inside past first ≡ true
    → (are_inside (take lasting past) first ≡ true) × (are_inside (drop lasting (take end past)) (image_after (take lasting past) first) ≡ true)
inside_between past first lasting end low inside =
    let whole = ap (λ es. are_inside es first) (take-append-drop end past) ∙ inside in
    inside_append (take lasting past) (drop lasting (take end past)) first
    (ap (λ es. are_inside es first) (sym (split_at past lasting end low)) ∙ (inside_append (take end past) (drop end past) first whole).0)

-- the part of the record before a call, or all of it
pub lasting_of : (past : List Event) (call m lasting : ℕ) → m ≡ min call (length past) → IsLasting (take m past) (length (take m past)) lasting → IsLasting past call lasting
lasting_of past call m lasting is part =
    let long = length-take m past in
    let bound = part.bound in
    record {
      bound = omega (arith, bound, long, is);
      settled = elim part.settled [
        | inl none ↦ inl none
        | inr at ↦ inr (at.0, ap settles (sym (get_or-take m past (lasting - 1) Idle (omega (arith, bound, long, at.0)))) ∙ at.1)
      ];
      none_since = λ i low high. elim (cases_lt i m) [
        | inl before ↦ ap settles (sym (get_or-take m past i Idle before)) ∙ part.none_since i low (omega (arith, long, is))
        | inr late ↦ ap settles (get_or_past past i Idle (omega (arith, is)))
      ];
    }

-- a part of the record, from one place to another
pub slice_of : {A : Type 0} (xs : List A) (low high : ℕ) → low ≤ high → take (high - low) (drop low xs) ≡ drop low (take high xs)
slice_of xs low high order = same_lists _ _ (search (rules, places)) (λ i d h. grind (arith, places))

-- no call since the last that left all before it lasting made the disk a new one, unless the call itself did
pub none_created : (past : List Event) (call lasting : ℕ) → IsLasting past call lasting → is_created (event_at past call) ≡ false
    → All (λ event. is_created event ≡ false) (drop lasting (take (call + 1) past))
none_created past call lasting is not i d small =
    let long = length-take (call + 1) past in
    let near : lasting + i < call + 1 = omega (arith, is.bound, length-drop lasting (take (call + 1) past), long) in
    let there : lasting + i < length past = omega (arith, is.bound, length-drop lasting (take (call + 1) past), long) in
    let same = get_or-drop lasting (take (call + 1) past) i d ∙ get_or-take (call + 1) past (lasting + i) d near ∙ get_or_default past (lasting + i) d Idle there in
    ap is_created same
    ∙ elim (cases_lt (lasting + i) call) [
      | inl before ↦ not_created (event_at past (lasting + i)) (is.none_since (lasting + i) (omega arith) before)
      | inr here ↦ let at : lasting + i ≡ call = omega arith in ap (λ n. is_created (event_at past n)) at ∙ not
    ]

module _ (first : List ℕ) (past : List Event) (call keep fill lasting : ℕ)
    (is : IsLasting past call lasting)
    (inside : are_inside past first ≡ true) where
  abbrev Begun : List ℕ → Type 0
  Begun d = d ≡ first

  abbrev before : List Event
  before = take lasting past

  abbrev since : List Event
  since = drop lasting (take call past)

  split : take call past ≡ before ++ since
  split = split_at past lasting call is.bound

  inside_parts : (are_inside before first ≡ true) × (are_inside since (image_after before first) ≡ true)
  inside_parts = inside_between past first lasting call is.bound inside

  none : NoneSettles since
  none i small =
      let long = length-take call past in
      let near : lasting + i < call = omega (arith, is.bound, length-drop lasting (take call past), long) in
      ap settles (get_or-drop lasting (take call past) i Idle ∙ get_or-take call past (lasting + i) Idle near)
      ∙ is.none_since (lasting + i) (omega arith) near

  abbrev image : List ℕ
  image = kept_calls since keep fill (image_after before first)

  left_before : Leaves (take call past) first Begun image
  left_before = subst (λ es. Leaves es first Begun image) (sym split)
      (leaves_append before since first Begun image
      (kept_leaves since (image_after before first) (image_after before first) (Leaves before first Begun) keep fill none inside_parts.1 refl
      (leaves_held before first Begun inside_parts.0 refl)))

  long_before : length image ≡ length (image_after (take call past) first)
  long_before = kept_length since (image_after before first) (image_after before first) keep fill none inside_parts.1 refl
      ∙ ap length (sym (image_append before since first)) ∙ ap (λ es. length (image_after es first)) (sym split)

  pub left_inside : LeftInside first past call (kept_calls (drop lasting (take (call + 1) past)) keep fill (image_after before first))
  left_inside = elim (cases_lt call (length past)) [
    | inl small ↦
        let event = event_at past call in
        let long = length-take call past in
        let more : drop lasting (take (call + 1) past) ≡ since ++ event ∷ [] =
        ap (drop lasting) (take_step past call Idle small) ∙ drop-append-le lasting (take call past) (event ∷ []) (omega (arith, is.bound, long)) in
        let here = inside_same _ _ event long_before (inside_at past first call Idle small inside) in
        subst (λ es. LeftInside first past call (kept_calls es keep fill (image_after before first))) (sym more)
        (subst (meanwhile (Leaves (take call past) first Begun) event) (sym (kept_more since event keep fill (image_after before first)))
        (meanwhile_cut image (Leaves (take call past) first Begun) (still since keep) fill event here left_before))
    | inr late ↦
        let none_there : event_at past call ≡ Idle = get_or_past past call Idle late in
        let same : take (call + 1) past ≡ take call past = take_all (call + 1) past (omega arith) ∙ sym (take_all call past late) in
        subst (λ es. LeftInside first past call (kept_calls (drop lasting es) keep fill (image_after before first))) (sym same)
        (subst (λ e. meanwhile (Leaves (take call past) first Begun) e image) (sym none_there) left_before)
  ]

-- the parts of the record that are replayed, and what comes of them
module _ (first written : List ℕ) (history : List Effect) (call lasting before end : ℕ)
    (before_is : before ≡ min call (length history))
    (end_is : end ≡ min (before + 1) (length history))
    (part : IsLasting (events_of written (take before history)) (length (take before history)) lasting)
    (inside : are_inside (events_of written history) first ≡ true) where
  abbrev all : List Event
  all = events_of written history

  all_long : length all ≡ length history
  all_long = length-map history (event_of written)

  cut : (n : ℕ) → take n all ≡ events_of written (take n history)
  cut n = take-map (event_of written) n history

  lasts : IsLasting all call lasting
  lasts =
      let long : length (take before history) ≡ length (take before all) = sym (length-map (take before history) (event_of written)) ∙ ap length (sym (cut before)) in
      lasting_of all call before lasting (omega (arith, before_is, all_long))
      (subst (λ es. IsLasting es (length (take before all)) lasting) (sym (cut before))
      (subst (λ n. IsLasting (events_of written (take before history)) n lasting) long part))

  order : lasting ≤ end
  order = omega (arith, part.bound, length-take before history, before_is, end_is)

  to_call : take end all ≡ take (call + 1) all
  to_call = elim (cases_lt call (length history)) [
    | inl small ↦ let same : end ≡ call + 1 = omega (arith, before_is, end_is) in ap (λ n. take n all) same
    | inr late ↦ take_all end all (omega (arith, all_long, before_is, end_is)) ∙ sym (take_all (call + 1) all (omega (arith, all_long)))
  ]

  abbrev back_part : List Effect
  back_part = take (end - lasting) (drop lasting history)

  back : events_of written back_part ≡ drop lasting (take (call + 1) all)
  back = ap (events_of written) (slice_of history lasting end order) ∙ sym (drop-map (event_of written) lasting (take end history))
      ∙ ap (drop lasting) (sym (cut end)) ∙ ap (drop lasting) to_call

  pub front_inside : are_inside (events_of written (take lasting history)) first ≡ true
  front_inside = ap (λ es. are_inside es first) (sym (cut lasting)) ∙ (inside_between all first lasting call lasts.bound inside).0

  module _ (image : List ℕ) (image_is : image ≡ image_after (events_of written (take lasting history)) first) where
    from : image ≡ image_after (take lasting all) first
    from = image_is ∙ ap (λ es. image_after es first) (sym (cut lasting))

    pub back_inside : are_inside (events_of written back_part) image ≡ true
    back_inside = let low : lasting ≤ call + 1 = omega (arith, lasts.bound) in
        ap (λ es. are_inside es image) back ∙ ap (are_inside (drop lasting (take (call + 1) all))) from
        ∙ (inside_between all first lasting (call + 1) low inside).1

    pub back_created : is_created (event_at all call) ≡ false → All (λ event. is_created event ≡ false) (events_of written back_part)
    back_created not = subst (All (λ event. is_created event ≡ false)) (sym back) (none_created all call lasting lasts not)

    module _ (keep fill : ℕ) (result : List ℕ) (result_is : result ≡ kept_calls (events_of written back_part) keep fill image) where
      shown : result ≡ kept_calls (drop lasting (take (call + 1) all)) keep fill (image_after (take lasting all) first)
      shown = result_is ∙ ap (λ es. kept_calls es keep fill image) back ∙ ap (kept_calls (drop lasting (take (call + 1) all)) keep fill) from

      pub is_stopped : IsStopped first all call keep fill result
      is_stopped = record { lasting = lasting; is_lasting = lasts; image_is = shown }

      pub is_left : LeftInside first all call result
      is_left = subst (LeftInside first all call) (sym shown) (left_inside first all call keep fill lasting lasts inside)

-- what a stop inside a call may leave is what a stop since the moment before it may have left
since_event : (first : List ℕ) (past : List Event) (call calls : ℕ) (c : List ℕ) → call < calls → (event : Event) → event_at past call ≡ event
    → meanwhile (Leaves (take call past) first (λ d. d ≡ first)) event c → LeftSince first past calls call c
since_event first past call calls c made Idle is left = (call, omega arith, omega arith, left)
since_event first past call calls c made (Wrote at bytes) is left = elim (cases_lt call (length past)) [
  | inl small ↦
      let more = more_leaves (take call past) (Wrote at bytes) first (λ d. d ≡ first) c left in
      let step : take (call + 1) past ≡ take call past ++ Wrote at bytes ∷ [] = take_step past call Idle small ∙ ap (λ (e : Event). take call past ++ e ∷ []) is in
      (call + 1, omega arith, omega arith, subst (λ (es : List Event). Leaves es first (λ d. d ≡ first) c) (sym step) more)
  | inr past_end ↦ let none : event_at past call ≡ Idle = get_or_past past call Idle past_end in cc
]
since_event first past call calls c made (GaveUp at n) is left = elim (cases_lt call (length past)) [
  | inl small ↦
      let more = more_leaves (take call past) (GaveUp at n) first (λ d. d ≡ first) c left in
      let step : take (call + 1) past ≡ take call past ++ GaveUp at n ∷ [] = take_step past call Idle small ∙ ap (λ (e : Event). take call past ++ e ∷ []) is in
      (call + 1, omega arith, omega arith, subst (λ (es : List Event). Leaves es first (λ d. d ≡ first) c) (sym step) more)
  | inr past_end ↦ let none : event_at past call ≡ Idle = get_or_past past call Idle past_end in cc
]
since_event first past call calls c made Flushed is left = (call, omega arith, omega arith, left)
since_event first past call calls c made (Created n) is left = (call, omega arith, omega arith, left)

pub left_since : (first : List ℕ) (past : List Event) (call calls : ℕ) (c : List ℕ) → call < calls → LeftInside first past call c → LeftSince first past calls call c
left_since first past call calls c made left = since_event first past call calls c made (event_at past call) refl left
