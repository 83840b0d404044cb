-- The function that finds the token at the front finds what begins there.
use Rattle.std.proofs.Common.{◌≡◌, ℕ, suc, ◌<◌, ◌≤◌, ◌==◌, ◌||◌, ◌&&◌, Bool, true, false, not, List, [], ◌∷◌, ◌++◌, length, take, drop, Option, Some, None, refl, sym, ap, subst, ◌∙◌, append_assoc, arith, inl, inr, ◌⊎◌}
use Rattle.std.specs.List.{list_all}
use Rattle.std.proofs.lemmas.Bool.{eqb-true}
use Rattle.std.proofs.lemmas.Bool.Decides.{nat_tests}
use Rattle.std.proofs.lemmas.List.{take-append-drop, take_at, drop_at, length-take}
use Rattle.lvm_text.specs.declared.token.Token.{Token}
use Rattle.lvm_text.specs.declared.token.Token.TheVariants.{Open, Close, BeginList, EndList, Comma, Equals, Word, Text}
use Rattle.lvm_text.specs.Tokens.{behind, escaped, is_word_byte, is_space, token_bytes, CanStand, BeginsNoWord, BeginsWith}
use Rattle.lvm_text.specs.inside.Scan.{mark_of, word_len, in_front, text_at, text_token, word_token, token_at}

pub cases : (b : Bool) → (b ≡ true) ⊎ (b ≡ false)
cases true = inl refl
cases false = inr refl

-- ---- spaces and comments

pub behind_shorter : (commented : Bool) (bytes : List ℕ) → length (behind commented bytes) ≤ length bytes
unfolding behind
behind_shorter true [] = omega arith
behind_shorter false [] = omega arith
behind_shorter true (b ∷ bytes) = omega (arith, behind_shorter (not (b == 10)) bytes)
behind_shorter false (b ∷ bytes) = elim (cases (is_space b)) [
  | inl e ↦
      let k : behind false (b ∷ bytes) ≡ behind false bytes = rw (e, behind) refl in
      rw k (omega (arith, behind_shorter false bytes))
  | inr e ↦ elim (cases (b == 35)) [
    | inl f ↦
        let k : behind false (b ∷ bytes) ≡ behind true bytes = rw (e, f, behind) refl in
        rw k (omega (arith, behind_shorter true bytes))
    | inr f ↦
        let k : behind false (b ∷ bytes) ≡ b ∷ bytes = rw (e, f, behind) refl in
        rw k (omega arith)
  ]
]

-- ---- marks

-- a word byte is none of the bytes that aren't
pub other_byte : (k : ℕ) → is_word_byte k ≡ false → (b : ℕ) → is_word_byte b ≡ true → (b == k) ≡ false
other_byte k isnt b held = elim (cases (b == k)) [
  | inl e ↦ absurd (let same = ap is_word_byte (eqb-true b k e) in cc)
  | inr e ↦ e
]

word_no_mark : (b : ℕ) → is_word_byte b ≡ true → mark_of b ≡ None
word_no_mark b h = rw (other_byte 123 refl b h, other_byte 125 refl b h, other_byte 91 refl b h, other_byte 93 refl b h, other_byte 44 refl b h, other_byte 61 refl b h) refl

record IsMark (b : ℕ) (t : Token) : Type 0 where
  pub spelled : token_bytes t ≡ b ∷ []
  pub stands : (more : List ℕ) → CanStand t more

marked : (u t : Token) (b k : ℕ) → Some u ≡ Some t → (b == k) ≡ true → token_bytes u ≡ k ∷ [] → ((more : List ℕ) → CanStand u more) → IsMark b t
marked u t b k e f g h =
    let same : u ≡ t = cc in
    subst (IsMark b) same (record { spelled = g ∙ ap (λ (x : ℕ). x ∷ []) (sym (eqb-true b k f)); stands = h })

mark_is : (b : ℕ) (t : Token) → mark_of b ≡ Some t → IsMark b t
mark_is b t h = elim (cases (b == 123)) [
  | inl e ↦ marked Open t b 123 (rw e at h) e refl (λ more. tt)
  | inr e1 ↦ elim (cases (b == 125)) [
    | inl e ↦ marked Close t b 125 (rw (e1, e) at h) e refl (λ more. tt)
    | inr e2 ↦ elim (cases (b == 91)) [
      | inl e ↦ marked BeginList t b 91 (rw (e1, e2, e) at h) e refl (λ more. tt)
      | inr e3 ↦ elim (cases (b == 93)) [
        | inl e ↦ marked EndList t b 93 (rw (e1, e2, e3, e) at h) e refl (λ more. tt)
        | inr e4 ↦ elim (cases (b == 44)) [
          | inl e ↦ marked Comma t b 44 (rw (e1, e2, e3, e4, e) at h) e refl (λ more. tt)
          | inr e5 ↦ elim (cases (b == 61)) [
            | inl e ↦ marked Equals t b 61 (rw (e1, e2, e3, e4, e5, e) at h) e refl (λ more. tt)
            | inr e6 ↦ absurd (let g = rw (e1, e2, e3, e4, e5, e6) at h in cc)
          ]
        ]
      ]
    ]
  ]
]

-- ---- words

and_left : (a b : Bool) → (a && b) ≡ true → a ≡ true
and_left true b h = refl
and_left false b h = h

and_right : (a b : Bool) → (a && b) ≡ true → b ≡ true
and_right true b h = h
and_right false b h = absurd cc

or_left : (a b : Bool) → (a || b) ≡ false → a ≡ false
or_left true b h = absurd cc
or_left false b h = refl

or_right : (a b : Bool) → (a || b) ≡ false → b ≡ false
or_right true b h = absurd cc
or_right false b h = h

word_len_at : (word more : List ℕ) → list_all is_word_byte word ≡ true → BeginsNoWord more → word_len (word ++ more) ≡ length word
unfolding word_len
word_len_at [] [] each ends = refl
word_len_at [] (b ∷ more) each ends = rw (ends, word_len) refl
word_len_at (b ∷ word) more each ends = rw (and_left (is_word_byte b) (list_all is_word_byte word) each, word_len) (ap suc (word_len_at word more (and_right (is_word_byte b) (list_all is_word_byte word) each) ends))

word_len_is : (bytes : List ℕ) → (word_len bytes ≤ length bytes) × (list_all is_word_byte (take (word_len bytes) bytes) ≡ true) × BeginsNoWord (drop (word_len bytes) bytes)
unfolding word_len
word_len_is [] = (omega arith, refl, tt)
word_len_is (b ∷ bytes) = elim (cases (is_word_byte b)) [
  | inl e ↦
      let h = word_len_is bytes in
      let k : word_len (b ∷ bytes) ≡ suc (word_len bytes) = rw (e, word_len) refl in
      rw k (omega (arith, h.0), rw e h.1, h.2)
  | inr e ↦
      let k : word_len (b ∷ bytes) ≡ 0 = rw (e, word_len) refl in
      rw k (omega arith, refl, e)
]

-- ---- texts

text_again : (text more : List ℕ) → text_at false (escaped text ++ 34 ∷ more) ≡ Some (text, more)
unfolding text_at escaped
text_again [] more = refl
text_again (b ∷ text) more = elim (cases (b == 34 || b == 92)) [
  | inl e ↦
      let k : escaped (b ∷ text) ≡ 92 ∷ b ∷ escaped text = rw (e, escaped) refl in
      let l : text_at true (b ∷ (escaped text ++ 34 ∷ more)) ≡ in_front b (text_at false (escaped text ++ 34 ∷ more)) = rw (e, text_at) refl in
      rw k (l ∙ ap (in_front b) (text_again text more))
  | inr e ↦
      let k : escaped (b ∷ text) ≡ b ∷ escaped text = rw (e, escaped) refl in
      let f : (b == 34) ≡ false = or_left _ _ e in
      let g : (b == 92) ≡ false = or_right _ _ e in
      let l : text_at false (b ∷ (escaped text ++ 34 ∷ more)) ≡ in_front b (text_at false (escaped text ++ 34 ∷ more)) = rw (f, g, text_at) refl in
      rw k (l ∙ ap (in_front b) (text_again text more))
]

record Fronted (b : ℕ) (r : Option (List ℕ × List ℕ)) (p : List ℕ × List ℕ) : Type 0 where
  pub text : List ℕ
  pub is : r ≡ Some (text, p.1)
  pub front : b ∷ text ≡ p.0

in_front_is : (b : ℕ) (r : Option (List ℕ × List ℕ)) (p : List ℕ × List ℕ) → in_front b r ≡ Some p → Fronted b r p
in_front_is b None p h = absurd cc
in_front_is b (Some q) p h = record { text = q.0; is = let e : (b ∷ q.0, q.1) ≡ p = cc in ap (λ (x : List ℕ × List ℕ). Some (q.0, x.1)) e; front = let e : (b ∷ q.0, q.1) ≡ p = cc in ap (λ (x : List ℕ × List ℕ). x.0) e }

abbrev slashed : Bool → List ℕ → List ℕ
slashed true bytes = 92 ∷ bytes
slashed false bytes = bytes

text_is : (escape : Bool) (bytes : List ℕ) (p : List ℕ × List ℕ) → text_at escape bytes ≡ Some p → slashed escape bytes ≡ escaped p.0 ++ 34 ∷ p.1
unfolding text_at escaped
text_is true [] p h = absurd cc
text_is false [] p h = absurd cc
text_is true (b ∷ bytes) p h = elim (cases (b == 34 || b == 92)) [
  | inl e ↦
      let l : text_at true (b ∷ bytes) ≡ in_front b (text_at false bytes) = rw (e, text_at) refl in
      let f = in_front_is b (text_at false bytes) p (sym l ∙ h) in
      let k = text_is false bytes (f.text, p.1) f.is in
      let j : escaped (b ∷ f.text) ≡ 92 ∷ b ∷ escaped f.text = rw (e, escaped) refl in
      rw (← f.front, j) (ap (λ (x : List ℕ). 92 ∷ b ∷ x) k)
  | inr e ↦ let l : text_at true (b ∷ bytes) ≡ None = rw (e, text_at) refl in absurd cc
]
text_is false (b ∷ bytes) p h = elim (cases (b == 34)) [
  | inl e ↦
      let l : text_at false (b ∷ bytes) ≡ Some ([], bytes) = rw (e, text_at) refl in
      let q : ([], bytes) ≡ p = cc in
      subst (λ (x : List ℕ × List ℕ). b ∷ bytes ≡ escaped x.0 ++ 34 ∷ x.1) q (ap (λ (x : ℕ). x ∷ bytes) (eqb-true b 34 e))
  | inr e ↦ elim (cases (b == 92)) [
    | inl f ↦
        let l : text_at false (b ∷ bytes) ≡ text_at true bytes = rw (e, f, text_at) refl in
        ap (λ (x : ℕ). x ∷ bytes) (eqb-true b 92 f) ∙ text_is true bytes p (sym l ∙ h)
    | inr f ↦
        let l : text_at false (b ∷ bytes) ≡ in_front b (text_at false bytes) = rw (e, f, text_at) refl in
        let n = in_front_is b (text_at false bytes) p (sym l ∙ h) in
        let k = text_is false bytes (n.text, p.1) n.is in
        let none : (b == 34 || b == 92) ≡ false = rw (e, f) refl in
        let j : escaped (b ∷ n.text) ≡ b ∷ escaped n.text = rw (none, escaped) refl in
        rw (← n.front, j) (ap (λ (x : List ℕ). b ∷ x) k)
  ]
]

-- ---- tokens

token_word : (b : ℕ) (bytes : List ℕ) → mark_of b ≡ None → (b == 34) ≡ false → token_at (b ∷ bytes) ≡ word_token (b ∷ bytes) (word_len (b ∷ bytes))
unfolding token_at
token_word b bytes m q = rw (m, q, token_at) refl

token_text : (bytes : List ℕ) → token_at (34 ∷ bytes) ≡ text_token (text_at false bytes)
unfolding token_at
token_text bytes = refl

not_nothing : (n : ℕ) → 0 < n → (n == 0) ≡ false
not_nothing n h = grind (arith, nat_tests)

pub token_again : (bytes : List ℕ) (t : Token) (more : List ℕ) → BeginsWith bytes t more → token_at bytes ≡ Some (t, more)
unfolding token_at
token_again bytes Open more h = ap token_at h.parts
token_again bytes Close more h = ap token_at h.parts
token_again bytes BeginList more h = ap token_at h.parts
token_again bytes EndList more h = ap token_at h.parts
token_again bytes Comma more h = ap token_at h.parts
token_again bytes Equals more h = ap token_at h.parts
token_again bytes (Word []) more h = absurd (let n = h.stands.some in omega arith)
token_again bytes (Word (b ∷ word)) more h =
    let mine = and_left (is_word_byte b) (list_all is_word_byte word) h.stands.each in
    let n = word_len_at (b ∷ word) more h.stands.each h.stands.ends in
    let parts : word_token ((b ∷ word) ++ more) (length (b ∷ word)) ≡ Some (Word (b ∷ word), more) = rw (not_nothing (length (b ∷ word)) (omega arith), take_at (b ∷ word) more (length (b ∷ word)) refl, drop_at (b ∷ word) more (length (b ∷ word)) refl) refl in
    ap token_at h.parts ∙ token_word b (word ++ more) (word_no_mark b mine) (other_byte 34 refl b mine) ∙ ap (word_token ((b ∷ word) ++ more)) n ∙ parts
token_again bytes (Text text) more h =
    let e : 34 ∷ ((escaped text ++ 34 ∷ []) ++ more) ≡ 34 ∷ (escaped text ++ 34 ∷ more) = ap (λ (x : List ℕ). 34 ∷ x) (append_assoc (escaped text) (34 ∷ []) more) in
    ap token_at (h.parts ∙ e) ∙ token_text (escaped text ++ 34 ∷ more) ∙ ap text_token (text_again text more)

abbrev Found : List ℕ → Token × List ℕ → Type 0
Found bytes p = BeginsWith bytes p.0 p.1

text_found : (bytes : List ℕ) (r : Option (List ℕ × List ℕ)) (p : Token × List ℕ) → text_at false bytes ≡ r → text_token r ≡ Some p → Found (34 ∷ bytes) p
text_found bytes None p e h = absurd cc
text_found bytes (Some q) p e h =
    let same : (Text q.0, q.1) ≡ p = cc in
    let k = text_is false bytes q e in
    subst (Found (34 ∷ bytes)) same (record { parts = ap (λ (x : List ℕ). 34 ∷ x) (k ∙ sym (append_assoc (escaped q.0) (34 ∷ []) q.1)); stands = tt })

word_found : (bytes : List ℕ) (p : Token × List ℕ) → word_token bytes (word_len bytes) ≡ Some p → Found bytes p
word_found bytes p h = elim (cases (word_len bytes == 0)) [
  | inl e ↦ absurd (let g : None ≡ Some p = rw e at h in cc)
  | inr e ↦
      let g : Some (Word (take (word_len bytes) bytes), drop (word_len bytes) bytes) ≡ Some p = rw e at h in
      let same : (Word (take (word_len bytes) bytes), drop (word_len bytes) bytes) ≡ p = cc in
      let k = word_len_is bytes in
      let n : 0 < length (take (word_len bytes) bytes) = grind (arith, nat_tests, length-take (word_len bytes) bytes, e, k.0) in
      subst (Found bytes) same (record { parts = sym (take-append-drop (word_len bytes) bytes); stands = record { some = n; each = k.1; ends = k.2 } })
]

mark_found : (b : ℕ) (bytes : List ℕ) (t : Token) → mark_of b ≡ Some t → BeginsWith (b ∷ bytes) t bytes
mark_found b bytes t h = let m = mark_is b t h in record { parts = ap (λ (x : List ℕ). x ++ bytes) (sym m.spelled); stands = m.stands bytes }

token_found : (b : ℕ) (bytes : List ℕ) (m : Option Token) (p : Token × List ℕ) → mark_of b ≡ m → token_at (b ∷ bytes) ≡ Some p → Found (b ∷ bytes) p
unfolding token_at
token_found b bytes (Some mark) p e h =
    let l : token_at (b ∷ bytes) ≡ Some (mark, bytes) = rw (e, token_at) refl in
    let same : (mark, bytes) ≡ p = cc in
    subst (Found (b ∷ bytes)) same (mark_found b bytes mark e)
token_found b bytes None p e h = elim (cases (b == 34)) [
  | inl f ↦
      let is = eqb-true b 34 f in
      let g : token_at (34 ∷ bytes) ≡ Some p = subst (λ (x : ℕ). token_at (x ∷ bytes) ≡ Some p) is h in
      subst (λ (x : ℕ). Found (x ∷ bytes) p) (sym is) (text_found bytes (text_at false bytes) p refl (sym (token_text bytes) ∙ g))
  | inr f ↦ word_found (b ∷ bytes) p (sym (token_word b bytes e f) ∙ h)
]

pub token_is : (bytes : List ℕ) (t : Token) (more : List ℕ) → token_at bytes ≡ Some (t, more) → BeginsWith bytes t more
unfolding token_at
token_is [] t more h = absurd cc
token_is (b ∷ bytes) t more h = token_found b bytes (mark_of b) (t, more) refl h
