-- What a loop has done, in front of what is left.
use Rattle.std.proofs.Common.{◌≡◌, ℕ, zero, suc, ◌+◌, ◌-◌, ◌<◌, List, [], ◌∷◌, ◌++◌, refl, ap, append_assoc, sym, ◌∙◌, arith}
use Rattle.std.specs.Prelude.{Option, Some, None}
use Rattle.lvm_text.specs.declared.tree.Item.{Item, out-Item}
use Rattle.lvm_text.specs.declared.tree.Item.TheOpen.{Item-F}
use Rattle.lvm_text.specs.declared.tree.Item.TheVariants as item
use Rattle.lvm_text.specs.declared.tree.Value.{Value}
use Rattle.lvm_text.specs.declared.tree.Tree.{Tree}
use Rattle.lvm_text.specs.Tree.{items_in, Layer}
use Rattle.lvm_group.specs.Lookup.{section_named}
use Rattle.lvm_group.specs.declared.types.PhysicalVolume.{PhysicalVolume}
use Rattle.lvm_group.specs.Spelt.{joined_options, section_then, each_section, segments_from, segment_in, segment_name}

-- some more in front, where there are others
abbrev pub ahead : {B : Type 0} → List B → Option (List B) → Option (List B)
ahead done None = None
ahead done (Some others) = Some (done ++ others)

pub ahead_more : {B : Type 0} (done : List B) (b : B) (others : Option (List B)) → ahead (done ++ b ∷ []) others ≡ ahead done (joined_options (Some b) others)
ahead_more done b None = refl
ahead_more done b (Some bs) = ap Some (append_assoc done (b ∷ []) bs)

pub segments_step : (ps : List PhysicalVolume) (k n : ℕ) (items : List Item) → 0 < n → segments_from ps k n items ≡ joined_options (segment_in ps (section_named (segment_name k) items)) (segments_from ps (k + 1) (n - 1) items)
segments_step ps k zero items h = let void : ⊥ = omega arith in absurd void
segments_step ps k (suc n) items h =
    let e : suc n - 1 ≡ n = omega arith in
    let g : k + 1 ≡ suc k = omega arith in
    ap (λ (m : ℕ). joined_options (segment_in ps (section_named (segment_name k) items)) (segments_from ps (suc k) m items)) (sym e) ∙ ap (λ (m : ℕ). joined_options (segment_in ps (section_named (segment_name k) items)) (segments_from ps m (suc n - 1) items)) (sym g)

-- a section's step
pub section_step : {B : Type 0} (read : List ℕ → List Item → Option B) (done new : List B) (it : Item) (items rest : List Item) (name : List ℕ) (tree : Tree) (b : B) (whole : Option (List B)) → items ≡ it ∷ rest → it ≡ item.Section name tree → read name (items_in tree) ≡ Some b → new ≡ done ++ b ∷ [] → ahead done (each_section read items) ≡ whole → ahead new (each_section read rest) ≡ whole
section_step {B} read done new it items rest name tree b whole e is gives n inv =
    let layer : out-Item it ≡ Item-F.Section name tree = ap out-Item is ∙ item.outs-Section name tree in
    let a : each_section read items ≡ joined_options (Some b) (each_section read rest) = ap (λ (x : List Item). each_section read x) e ∙ ap (λ (x : Layer). section_then read x (each_section read rest)) layer ∙ ap (λ (x : Option B). joined_options x (each_section read rest)) gives in
    ap (λ (d : List B). ahead d (each_section read rest)) n ∙ ahead_more done b (each_section read rest) ∙ ap (λ (x : Option (List B)). ahead done x) (sym a) ∙ inv

-- a value's step
pub value_step : {B : Type 0} (read : List ℕ → List Item → Option B) (done new : List B) (it : Item) (items rest : List Item) (name : List ℕ) (v : Value) (whole : Option (List B)) → items ≡ it ∷ rest → it ≡ item.Value name v → new ≡ done → ahead done (each_section read items) ≡ whole → ahead new (each_section read rest) ≡ whole
value_step {B} read done new it items rest name v whole e is n inv =
    let layer : out-Item it ≡ Item-F.Value name v = ap out-Item is ∙ item.outs-Value name v in
    let a : each_section read items ≡ each_section read rest = ap (λ (x : List Item). each_section read x) e ∙ ap (λ (x : Layer). section_then read x (each_section read rest)) layer in
    ap (λ (d : List B). ahead d (each_section read rest)) n ∙ ap (λ (x : Option (List B)). ahead done x) (sym a) ∙ inv
