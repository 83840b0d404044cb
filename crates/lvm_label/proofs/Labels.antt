-- Lists of pairs, and the labels that they make.
use Rattle.std.proofs.Common.{◌≡◌, ℕ, ◌+◌, ◌*◌, ◌<◌, inl, inr, false, List, refl, None, Some, sym, ap, subst, ◌∙◌, arith}
use Rattle.std.proofs.lemmas.Bool.{false≢true, cases_order}
use Rattle.disk_base.specs.Image.{sector}
use Rattle.lvm_label.specs.declared.label.Label.{Label}
use Rattle.lvm_label.specs.Label.{is_zero_pair, ArePairs, header_offset, areas_place, label_of, IsLabel, IsNoLabel, IsFirstLabel, OneLabel}

-- no list ends before the place that is reached
pub no_pairs : (bytes : List ℕ) (at n : ℕ) → 512 < at + 16 * n + 16 → ((k : ℕ) → k < n → is_zero_pair bytes (at + 16 * k) ≡ false) → (count : ℕ) → ArePairs bytes at count → ⊥
no_pairs bytes at n past before count are = false≢true (sym (before count (omega (arith, are.inside))) ∙ are.ended)

-- there is one list
pub one_count : (bytes : List ℕ) (at a b : ℕ) → ArePairs bytes at a → ArePairs bytes at b → a ≡ b
one_count bytes at a b a-are b-are =
    elim (cases_order a b) [
      | inl same ↦ same
      | inr (inl less) ↦ absurd (false≢true (sym (b-are.none_before a less) ∙ a-are.ended))
      | inr (inr more) ↦ absurd (false≢true (sym (a-are.none_before b more) ∙ b-are.ended))
    ]

-- the label of a sector before which none holds one is the first
pub first_label : (bytes one : List ℕ) (n : ℕ) (label : Label) → n < 4 → one ≡ sector bytes n → IsLabel n one label → ((k : ℕ) → k < n → IsNoLabel k (sector bytes k)) → IsFirstLabel bytes label
first_label bytes one n label lt one-is is before =
    let at : n ≡ label.sector = sym (ap (λ (l : Label). l.sector) is.label_is) in
    let there : IsLabel n (sector bytes n) label = subst (λ (b : List ℕ). IsLabel n b label) one-is is in
    record {
      inside = omega arith;
      here = subst (λ (k : ℕ). IsLabel k (sector bytes k) label) at there;
      none_before = λ k less. before k (omega arith);
    }

pub no_label_there : (bytes one : List ℕ) (n : ℕ) → one ≡ sector bytes n → IsNoLabel n one → IsNoLabel n (sector bytes n)
no_label_there bytes one n one-is none = subst (λ (b : List ℕ). IsNoLabel n b) one-is none

-- ---- there is one label

same_label : (number : ℕ) (bytes : List ℕ) (a b : Label) → IsLabel number bytes a → IsLabel number bytes b → a ≡ b
same_label number bytes a b x y =
    let o : x.others ≡ y.others = one_count bytes (header_offset bytes + 40) x.others y.others x.has_areas.data_areas y.has_areas.data_areas in
    let m : x.areas ≡ y.areas = one_count bytes (areas_place bytes y.others) x.areas y.areas (subst (λ (n : ℕ). ArePairs bytes (areas_place bytes n) x.areas) o x.has_areas.metadata_areas) y.has_areas.metadata_areas in
    x.label_is ∙ ap (λ (n : ℕ). label_of number bytes n x.areas) o ∙ ap (λ (n : ℕ). label_of number bytes y.others n) m ∙ sym y.label_is

same_sector : (bytes : List ℕ) (a b : Label) → IsFirstLabel bytes a → IsFirstLabel bytes b → a.sector ≡ b.sector
same_sector bytes a b x y =
    elim (cases_order a.sector b.sector) [
      | inl same ↦ same
      | inr (inl less) ↦ absurd (y.none_before a.sector less a x.here)
      | inr (inr more) ↦ absurd (x.none_before b.sector more b y.here)
    ]

pub one_label : OneLabel
one_label bytes None None x y = refl
one_label bytes None (Some b) x y = absurd (x b.sector y.inside b y.here)
one_label bytes (Some a) None x y = absurd (y a.sector x.inside a x.here)
one_label bytes (Some a) (Some b) x y =
    ap Some (same_label b.sector (sector bytes b.sector) a b (subst (λ (k : ℕ). IsLabel k (sector bytes k) a) (same_sector bytes a b x y) x.here) y.here)
