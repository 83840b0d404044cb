-- The copy so far, and one more gap between runs.
use Rattle.std.proofs.lemmas.Bool.{cases_lt}
use Rattle.std.proofs.lemmas.List.{length-replicate}
use Rattle.std.proofs.Common.{◌≡◌, ℕ, ◌+◌, ◌-◌, ◌*◌, ◌/◌, ◌<◌, ◌≤◌, ◌⊎◌, List, length, replicate, Bool, true, false, cond, arith, refl, ◌∙◌, sym, ap, subst, inl, inr}
use Rattle.disk_base.specs.Image.{sector}
use Rattle.run_set.specs.declared.run.Run.{Run}
use Rattle.run_set.specs.Runs.{Holds}
use Rattle.run_set.proofs.Rising.{Holds-below}
use Rattle.run_copy.specs.Copies.{IsCopied, is_left_out}
use Rattle.sparse_copy.specs.Sparse.{EndWithin, IsSparseCopy, between}
use Rattle.sparse_copy.proofs.Zeros.{zero_in_piece, zero_bytes, behind_end}

-- a blank disk of so many sectors was made a sparse copy below `low`
pub record IsCopyBelow (low sectors : ℕ) (runs : List Run) (source new : List ℕ) : Type 0 where
  pub same_length : length new ≡ length source
  pub blank : (k : ℕ) → k < sectors → Holds runs k ⊎ (low ≤ k) → sector new k ≡ replicate 512 0
  pub kept : (k : ℕ) → k < low → (Holds runs k → ⊥) → sector new k ≡ sector source k

-- nothing is copied yet
pub copy_none : (sectors : ℕ) (runs : List Run) (source new : List ℕ) → length source ≡ 512 * sectors → new ≡ replicate (512 * sectors) 0
    → IsCopyBelow 0 sectors runs source new
copy_none sectors runs source new long is = record {
  same_length = ap length is ∙ length-replicate (512 * sectors) 0 ∙ sym long;
  blank = λ k small held. ap (λ (disk : List ℕ). sector disk k) is ∙ zero_bytes (512 * sectors) (512 * k) 512 (omega arith);
  kept = λ k small. absurd (omega arith);
}

-- the sectors from `low` up to below `end` are copied, which none of the runs has, and those up to below `next` are held
module _ (low end next sectors : ℕ) (runs : List Run) (source old new : List ℕ)
    (long : length source ≡ 512 * sectors)
    (before : IsCopyBelow low sectors runs source old)
    (copied : IsCopied (between low end) (end - low) source old new)
    (rising : low ≤ end)
    (held_on : end ≤ next)
    (inside : next ≤ sectors)
    (free : (k : ℕ) → low ≤ k → k < end → Holds runs k → ⊥)
    (held : (k : ℕ) → end ≤ k → k < next → Holds runs k) where
  -- a sector that is copied, by whether its piece is left out
  due_here : (k : ℕ) → low + k < end → (left_out : Bool) → is_left_out source (between low end) (k / 2048) ≡ left_out
      → cond left_out (sector old (low + k)) (sector source (low + k)) ≡ sector source (low + k)
  due_here k small true is = before.blank (low + k) (omega arith) (inr (omega arith)) ∙ sym (zero_in_piece source (between low end) k (omega arith) (omega arith) is)
  due_here k small false is = refl

  here : (k : ℕ) → low ≤ k → k < end → sector new k ≡ sector source k
  here k from below =
      let i : ℕ = k - low in
      let at : low + i ≡ k = omega arith in
      let Same : ℕ → Type 0 = λ n. sector new n ≡ sector source n in
      subst Same at (copied.copied i (omega arith) ∙ due_here i (omega arith) (is_left_out source (between low end) (i / 2048)) refl)

  elsewhere : (k : ℕ) → (k < low) ⊎ (end ≤ k) → sector new k ≡ sector old k
  elsewhere k out = copied.others k (λ above. elim out [ inl less ↦ absurd (omega arith) | inr more ↦ omega arith ])

  blank_on : (k : ℕ) → k < sectors → Holds runs k ⊎ (next ≤ k) → sector new k ≡ replicate 512 0
  blank_on k small (inl held_there) = elim (cases_lt k low) [
    | inl less ↦ elsewhere k (inl less) ∙ before.blank k small (inl held_there)
    | inr from ↦ elim (cases_lt k end) [
      | inl below ↦ absurd (free k from below held_there)
      | inr more ↦ elsewhere k (inr more) ∙ before.blank k small (inl held_there)
    ]
  ]
  blank_on k small (inr far) = elsewhere k (inr (omega arith)) ∙ before.blank k small (inr (omega arith))

  kept_on : (k : ℕ) → k < next → (Holds runs k → ⊥) → sector new k ≡ sector source k
  kept_on k small none = elim (cases_lt k low) [
    | inl less ↦ elsewhere k (inl less) ∙ before.kept k less none
    | inr from ↦ elim (cases_lt k end) [
      | inl below ↦ here k from below
      | inr more ↦ absurd (none (held k more small))
    ]
  ]

  pub copy_more : IsCopyBelow next sectors runs source new
  copy_more = record { same_length = copied.same_length ∙ before.same_length; blank = blank_on; kept = kept_on }

-- all is copied
pub copy_whole : (sectors : ℕ) (runs : List Run) (source new : List ℕ) → length source ≡ 512 * sectors → EndWithin sectors runs
    → IsCopyBelow sectors sectors runs source new → IsSparseCopy runs source new
copy_whole sectors runs source new long inside done = record {
  same_length = done.same_length;
  freed = λ k held. done.blank k (Holds-below sectors runs k inside held) (inl held);
  kept = λ k none. elim (cases_lt k sectors) [
    | inl small ↦ done.kept k small none
    | inr far ↦ behind_end new k (omega (arith, done.same_length)) ∙ sym (behind_end source k (omega arith))
  ];
}
