-- Entries in line: the first that ends behind a place tells whether what begins there shares none.
use Rattle.std.proofs.Common.{◌≡◌, ℕ, ◌+◌, ◌≤◌, ◌<◌, inl, inr, ◌⊎◌, Bool, true, false, ◌&&◌, ◌||◌, not, nat_le, nat_lt, List, [], ◌∷◌, ◌++◌, refl, sym, ap, ◌∙◌, arith}
use Rattle.std.proofs.lemmas.Bool.Decides.{nat_tests}
use Rattle.std.proofs.lemmas.List.Folds.{list_all-append}
use Rattle.std.specs.List.{list_all, filter}
use Rattle.std.specs.Ordering.{nat_cmp, is_le}
use Rattle.std.proofs.Common.{Less, Greater}
use Rattle.std.proofs.lemmas.Bool.{false≢true}
use Rattle.std.specs.BTreeMap.{insert_entry}
use Rattle.lvm_group.specs.declared.span.Span.{Span}
use Rattle.lvm_group.specs.Apart.{are_apart}
use Rattle.lvm_group.specs.inside.Line.{begin_of, behind_span, is_off, AreInLine, is_in_line, AreKept, begins_behind}

-- entries that begin at `at` or behind share no place with what ends before
pub all_off : (begin behind at : ℕ) (es : List (ℕ × ℕ)) → behind ≤ at → list_all (λ f. nat_le at f.1) es ≡ true → list_all (is_off begin behind) es ≡ true
all_off begin behind at [] le all = refl
all_off begin behind at (e ∷ es) le all =
    let ih : list_all (λ f. nat_le at f.1) es ≡ true → list_all (is_off begin behind) es ≡ true = all_off begin behind at es le in
    grind (arith, nat_tests, ih)

three : (a b c : Bool) → (a && (b && c)) ≡ true → (a ≡ true) × (b ≡ true) × (c ≡ true)
three true true true is = (refl, refl, refl)
three true true false is = absurd (false≢true is)
three true false c is = absurd (false≢true is)
three false b c is = absurd (false≢true is)

pub in_line : (es : List (ℕ × ℕ)) → is_in_line es ≡ true → AreInLine es
in_line [] is = tt
in_line (e ∷ es) is =
    let parts = three (nat_lt e.1 e.0) (list_all (λ f. nat_le e.0 f.1) es) (is_in_line es) is in
    let first : nat_lt e.1 e.0 ≡ true = parts.0 in
    (grind (arith, nat_tests, first), parts.1, in_line es parts.2)

is_line : (es : List (ℕ × ℕ)) → AreInLine es → is_in_line es ≡ true
is_line [] line = refl
is_line (e ∷ es) line =
    let ih : is_in_line es ≡ true = is_line es line.2 in
    grind (arith, nat_tests, ih, line.0, line.1)

free_line : (begin behind : ℕ) (es : List (ℕ × ℕ)) → begin < behind → AreInLine es
    → list_all (is_off begin behind) es ≡ begins_behind behind (filter (λ e. nat_lt begin e.0) es)
free_line begin behind [] lt line = refl
free_line begin behind (e ∷ es) lt line =
    let ih : list_all (is_off begin behind) es ≡ begins_behind behind (filter (λ e. nat_lt begin e.0) es) = free_line begin behind es lt line.2 in
    let rest : behind ≤ e.1 → list_all (is_off begin behind) es ≡ true = λ le. all_off begin behind e.0 es (omega (arith, line.0)) line.1 in
    grind (arith, nat_tests, ih, rest)

-- ---- one more entry

pub off_insert : (a b begin behind : ℕ) (es : List (ℕ × ℕ)) → begin < behind → AreInLine es → list_all (is_off begin behind) es ≡ true
    → list_all (is_off a b) (insert_entry nat_cmp es behind begin) ≡ (list_all (is_off a b) es && is_off a b (behind, begin))
off_insert a b begin behind [] lt line off = grind (arith, nat_tests)
off_insert a b begin behind (e ∷ es) lt line off =
    let ih : list_all (is_off begin behind) es ≡ true → list_all (is_off a b) (insert_entry nat_cmp es behind begin) ≡ (list_all (is_off a b) es && is_off a b (behind, begin)) = off_insert a b begin behind es lt line.2 in
    grind (arith, nat_tests, ih, line.0)

-- what is inserted begins behind a place, if all does
behind_insert : (at begin behind : ℕ) (es : List (ℕ × ℕ)) → at ≤ begin → list_all (λ f. nat_le at f.1) es ≡ true → list_all (λ f. nat_le at f.1) (insert_entry nat_cmp es behind begin) ≡ true
behind_insert at begin behind [] le all = grind (arith, nat_tests)
behind_insert at begin behind (e ∷ es) le all =
    let ih : list_all (λ f. nat_le at f.1) es ≡ true → list_all (λ f. nat_le at f.1) (insert_entry nat_cmp es behind begin) ≡ true = behind_insert at begin behind es le in
    grind (arith, nat_tests, ih)

off_or : (a b c : Bool) → ((a || b) && c) ≡ true → (a ≡ true) ⊎ (b ≡ true)
off_or true b c is = inl refl
off_or false true c is = inr refl
off_or false false c is = absurd (false≢true is)

and_true : (b : Bool) → (b && true) ≡ b
and_true true = refl
and_true false = refl

all_behind : (at next : ℕ) (es : List (ℕ × ℕ)) → at ≤ next → list_all (λ f. nat_le next f.1) es ≡ true → list_all (λ f. nat_le at f.1) es ≡ true
all_behind at next [] le all = refl
all_behind at next (e ∷ es) le all =
    let ih : list_all (λ f. nat_le next f.1) es ≡ true → list_all (λ f. nat_le at f.1) es ≡ true = all_behind at next es le in
    grind (arith, nat_tests, ih)

line_insert : (begin behind : ℕ) (es : List (ℕ × ℕ)) → begin < behind → AreInLine es → list_all (is_off begin behind) es ≡ true → AreInLine (insert_entry nat_cmp es behind begin)
line_insert begin behind [] lt line off = (lt, refl, tt)
line_insert begin behind (e ∷ es) lt line off =
    let ih : list_all (is_off begin behind) es ≡ true → AreInLine (insert_entry nat_cmp es behind begin) = line_insert begin behind es lt line.2 in
    let there : list_all (is_off begin behind) es ≡ true = grind (arith, nat_tests, off) in
    let more : AreInLine (insert_entry nat_cmp es behind begin) = ih there in
    elim (off_or (nat_le behind e.1) (nat_le e.0 begin) (list_all (is_off begin behind) es) off) [
      | inl before ↦
          let first : nat_cmp behind e.0 ≡ Less = grind (arith, nat_tests, line.0) in
          let after : list_all (λ f. nat_le behind f.1) es ≡ true = all_behind behind e.0 es (grind (arith, nat_tests, line.0)) line.1 in
          rw first (lt, grind (arith, nat_tests), line)
      | inr after ↦
          let last : nat_cmp behind e.0 ≡ Greater = grind (arith, nat_tests) in
          rw last (line.0, behind_insert e.0 begin behind es (grind (arith, nat_tests)) line.1, more)
    ]

-- ---- spans and entries

apart_is_off : (t s : Span) → t.first + t.count ≤ 1099511627776 → s.first + s.count ≤ 1099511627776
    → are_apart t s ≡ is_off (begin_of t) (behind_span t) (behind_span s, begin_of s)
apart_is_off t s t-fits s-fits = grind (arith, nat_tests)

kept_more : (spans : List Span) (s : Span) (es : List (ℕ × ℕ)) → s.first + s.count ≤ 1099511627776 → 0 < s.count → AreInLine es → AreKept spans es
    → list_all (are_apart s) spans ≡ true → AreKept (spans ++ s ∷ []) (insert_entry nat_cmp es (behind_span s) (begin_of s))
kept_more spans s es fits some line kept apart t t-fits =
    let off : list_all (is_off (begin_of s) (behind_span s)) es ≡ true = sym (kept s fits) ∙ apart in
    list_all-append (are_apart t) spans (s ∷ [])
    ∙ ap (λ (b : Bool). b && (are_apart t s && true)) (kept t t-fits)
    ∙ ap (λ (b : Bool). list_all (is_off (begin_of t) (behind_span t)) es && b) (and_true (are_apart t s) ∙ apart_is_off t s t-fits fits)
    ∙ sym (off_insert (begin_of t) (behind_span t) (begin_of s) (behind_span s) es (omega arith) line off)

-- ---- by the test

pub is_free_line : (begin behind : ℕ) (spans : List Span) (s : Span) (es : List (ℕ × ℕ)) → begin ≡ begin_of s → behind ≡ behind_span s → s.first + s.count ≤ 1099511627776 → 0 < s.count
    → is_in_line es ≡ true → AreKept spans es → list_all (are_apart s) spans ≡ begins_behind behind (filter (λ e. nat_lt begin e.0) es)
is_free_line begin behind spans s es begin-is behind-is fits some line kept =
    rw (begin-is, behind-is) (kept s fits ∙ free_line (begin_of s) (behind_span s) es (omega arith) (in_line es line))

pub is_in_line_insert : (spans : List Span) (s : Span) (es : List (ℕ × ℕ)) → s.first + s.count ≤ 1099511627776 → 0 < s.count → is_in_line es ≡ true → AreKept spans es
    → list_all (are_apart s) spans ≡ true → is_in_line (insert_entry nat_cmp es (behind_span s) (begin_of s)) ≡ true
is_in_line_insert spans s es fits some line kept apart =
    is_line (insert_entry nat_cmp es (behind_span s) (begin_of s)) (line_insert (begin_of s) (behind_span s) es (omega arith) (in_line es line) (sym (kept s fits) ∙ apart))

pub is_kept_more : (spans : List Span) (s : Span) (es : List (ℕ × ℕ)) → s.first + s.count ≤ 1099511627776 → 0 < s.count → is_in_line es ≡ true → AreKept spans es
    → list_all (are_apart s) spans ≡ true → AreKept (spans ++ s ∷ []) (insert_entry nat_cmp es (behind_span s) (begin_of s))
is_kept_more spans s es fits some line kept apart = kept_more spans s es fits some (in_line es line) kept apart

-- ---- a range from one place on

above : (begin : ℕ) (es : List (ℕ × ℕ)) → filter (λ e. is_le (nat_cmp (begin + 1) e.0) && not false) es ≡ filter (λ e. nat_lt begin e.0) es
above begin [] = refl
above begin (e ∷ es) =
    let ih : filter (λ e. is_le (nat_cmp (begin + 1) e.0) && not false) es ≡ filter (λ e. nat_lt begin e.0) es = above begin es in
    grind (arith, nat_tests, ih)

pub first_above : (begin behind : ℕ) (es found rest : List (ℕ × ℕ)) (e : ℕ × ℕ) → found ≡ filter (λ e. is_le (nat_cmp (begin + 1) e.0) && not false) es → found ≡ e ∷ rest
    → nat_le behind e.1 ≡ begins_behind behind (filter (λ e. nat_lt begin e.0) es)
first_above begin behind es found rest e found-is first = ap (begins_behind behind) (sym first ∙ found-is ∙ above begin es)
