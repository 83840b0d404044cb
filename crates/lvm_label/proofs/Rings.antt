-- The text of a ring.
use Rattle.std.proofs.Common.{inl, inr, subst, ◌≡◌, ℕ, ◌+◌, ◌-◌, ◌<◌, ◌≤◌, Bool, true, false, nat_eq, if◌then◌else◌, List, [], ◌∷◌, ◌++◌, length, take, drop, get_or, refl, sym, ap, ◌∙◌, append_assoc, append-nil, arith, length-drop}
use Rattle.std.proofs.lemmas.List.{take_all, take_more, drop_all, drop_more, take-append-le}
use Rattle.std.proofs.Math.Seq.{take-append-add}
use Rattle.disk_base.specs.Checksum.{crc32_lvm_of}
use Rattle.disk_base.specs.Image.{bytes_at}
use Rattle.lvm_label.specs.declared.fault.RingFault.{RingFault}
use Rattle.lvm_label.specs.declared.fault.RingFault.TheVariants.{Place, Header, Ignored, Empty, Checksum, Device, Memory}
use Rattle.lvm_label.specs.Ring.{RingArea, around_area, before_zero, text_offset, text_size, text_checksum, area_header, IsAreaPlaced, IsHeaderFault, NamesText, IsTextSound, IsRing, HasRingFault, RingOrFault}
use Rattle.lvm_label.specs.inside.Reading.{IsRingTextFault, IsRingHindered, IsRingOf}

pub around_front : (area : List ℕ) (offset size m : ℕ) (a b : List ℕ) → a ≡ [] → b ≡ a ++ take m (drop offset area) → m ≡ size → size ≤ length area - offset → b ≡ around_area area offset size
around_front area offset size m a b a-is b-is m-is fits =
    b-is ∙ ap (λ (l : List ℕ). l ++ take m (drop offset area)) a-is ∙ ap (λ (k : ℕ). take k (drop offset area)) m-is
    ∙ sym (take-append-le size (drop offset area) (drop 512 area) (omega (arith, length-drop offset area)))

pub around_both : (area : List ℕ) (offset size m n : ℕ) (a b c : List ℕ) → a ≡ [] → b ≡ a ++ take m (drop offset area) → c ≡ b ++ take n (drop 512 area)
    → m ≡ length area - offset → n ≡ size - m → m < size → c ≡ around_area area offset size
around_both area offset size m n a b c a-is b-is c-is m-is n-is past =
    let xs : List ℕ = drop offset area in
    let ys : List ℕ = drop 512 area in
    let all : length xs + n ≡ size = omega (arith, length-drop offset area) in
    c-is
    ∙ ap (λ (l : List ℕ). l ++ take n ys) (b-is ∙ ap (λ (l : List ℕ). l ++ take m xs) a-is ∙ take_all m xs (omega (arith, length-drop offset area)))
    ∙ sym (take-append-add xs ys n)
    ∙ ap (λ (k : ℕ). take k (xs ++ ys)) all

zero_first : (x : ℕ) (xs : List ℕ) → nat_eq x 0 ≡ true → before_zero (x ∷ xs) ≡ []
unfolding before_zero
zero_first x xs h = ap (λ (b : Bool). if b then [] else x ∷ before_zero xs) h

other_first : (x : ℕ) (xs : List ℕ) → nat_eq x 0 ≡ false → before_zero (x ∷ xs) ≡ x ∷ before_zero xs
unfolding before_zero
other_first x xs h = ap (λ (b : Bool). if b then [] else x ∷ before_zero xs) h

pub zero_here : (bytes : List ℕ) (i : ℕ) → before_zero bytes ≡ take i bytes ++ before_zero (drop i bytes) → i < length bytes → nat_eq (get_or bytes i 0) 0 ≡ true → before_zero bytes ≡ take i bytes
zero_here bytes i so_far lt zero_is =
    so_far
    ∙ ap (λ (l : List ℕ). take i bytes ++ l) (ap before_zero (drop_more bytes i 0 lt) ∙ zero_first (get_or bytes i 0) (drop (i + 1) bytes) zero_is)
    ∙ append-nil (take i bytes)

pub zero_more : (bytes : List ℕ) (i : ℕ) → before_zero bytes ≡ take i bytes ++ before_zero (drop i bytes) → i < length bytes → nat_eq (get_or bytes i 0) 0 ≡ false
    → before_zero bytes ≡ take (i + 1) bytes ++ before_zero (drop (i + 1) bytes)
zero_more bytes i so_far lt other =
    so_far
    ∙ ap (λ (l : List ℕ). take i bytes ++ l) (ap before_zero (drop_more bytes i 0 lt) ∙ other_first (get_or bytes i 0) (drop (i + 1) bytes) other)
    ∙ sym (append_assoc (take i bytes) (get_or bytes i 0 ∷ []) (before_zero (drop (i + 1) bytes)))
    ∙ ap (λ (l : List ℕ). l ++ before_zero (drop (i + 1) bytes)) (sym (take_more bytes i 0 lt))

zero_nil : before_zero [] ≡ []
unfolding before_zero
zero_nil = refl

pub zero_none : (bytes : List ℕ) (i n : ℕ) → before_zero bytes ≡ take i bytes ++ before_zero (drop i bytes) → length bytes ≤ i → n ≡ length bytes → before_zero bytes ≡ take n bytes
zero_none bytes i n so_far end n-is =
    so_far
    ∙ ap (λ (l : List ℕ). take i bytes ++ l) (ap before_zero (drop_all i bytes end) ∙ zero_nil)
    ∙ append-nil (take i bytes)
    ∙ take_all i bytes end
    ∙ sym (take_all n bytes (omega arith))

-- ---- from the bytes that were read to the volume

pub ring_read : (sectors : ℕ) (image : List ℕ) (start size : ℕ) (header area : List ℕ) (ring : RingArea) → IsAreaPlaced sectors start size → header ≡ area_header image start → area ≡ bytes_at image start size
    → NamesText start size header → IsRingOf start size header area ring → IsRing sectors image start size ring
ring_read sectors image start size header area ring placed header-is area-is names is =
    let here : IsRingOf start size (area_header image start) (bytes_at image start size) ring =
    subst (λ (h : List ℕ). IsRingOf start size h (bytes_at image start size) ring) header-is (subst (λ (a : List ℕ). IsRingOf start size header a ring) area-is is) in
    record {
      placed = placed;
      names = subst (λ (h : List ℕ). NamesText start size h) header-is names;
      sound = here.sound;
      ring_is = here.ring_is;
    }

header_fault_here : (sectors : ℕ) (image : List ℕ) (start size : ℕ) (fault : RingFault) → IsAreaPlaced sectors start size → IsHeaderFault start size (area_header image start) fault
    → HasRingFault sectors image start size fault
header_fault_here sectors image start size Place placed due = inr (placed, due)
header_fault_here sectors image start size Header placed due = (placed, due)
header_fault_here sectors image start size Ignored placed due = (placed, due)
header_fault_here sectors image start size Empty placed due = (placed, due)
header_fault_here sectors image start size Checksum placed due = absurd due
header_fault_here sectors image start size Device placed due = absurd due
header_fault_here sectors image start size Memory placed due = absurd due

pub header_fault : (sectors : ℕ) (image : List ℕ) (start size : ℕ) (header : List ℕ) (fault : RingFault) → IsAreaPlaced sectors start size → header ≡ area_header image start
    → IsHeaderFault start size header fault → HasRingFault sectors image start size fault
header_fault sectors image start size header fault placed header-is due =
    header_fault_here sectors image start size fault placed (subst (λ (h : List ℕ). IsHeaderFault start size h fault) header-is due)

text_fault_here : (sectors : ℕ) (image : List ℕ) (start size : ℕ) (fault : RingFault) → IsAreaPlaced sectors start size → NamesText start size (area_header image start)
    → IsRingTextFault (area_header image start) (bytes_at image start size) fault → HasRingFault sectors image start size fault
text_fault_here sectors image start size Place placed names due = absurd due
text_fault_here sectors image start size Header placed names due = absurd due
text_fault_here sectors image start size Ignored placed names due = absurd due
text_fault_here sectors image start size Empty placed names due = absurd due
text_fault_here sectors image start size Checksum placed names due = record { placed = placed; names = names; unsound = due }
text_fault_here sectors image start size Device placed names due = absurd due
text_fault_here sectors image start size Memory placed names due = tt

pub text_fault : (sectors : ℕ) (image : List ℕ) (start size : ℕ) (header area : List ℕ) (fault : RingFault) → IsAreaPlaced sectors start size → header ≡ area_header image start
    → area ≡ bytes_at image start size → NamesText start size header → IsRingTextFault header area fault → HasRingFault sectors image start size fault
text_fault sectors image start size header area fault placed header-is area-is names due =
    text_fault_here sectors image start size fault placed (subst (λ (h : List ℕ). NamesText start size h) header-is names)
    (subst (λ (h : List ℕ). IsRingTextFault h (bytes_at image start size) fault) header-is (subst (λ (a : List ℕ). IsRingTextFault header a fault) area-is due))

pub hindered_fault : (sectors : ℕ) (image : List ℕ) (start size : ℕ) (fault : RingFault) → IsRingHindered fault → HasRingFault sectors image start size fault
hindered_fault sectors image start size Place due = absurd due
hindered_fault sectors image start size Header due = absurd due
hindered_fault sectors image start size Ignored due = absurd due
hindered_fault sectors image start size Empty due = absurd due
hindered_fault sectors image start size Checksum due = absurd due
hindered_fault sectors image start size Device due = tt
hindered_fault sectors image start size Memory due = tt

-- a text with another checksum is not sound
pub text_unsound : (header area stored : List ℕ) (sum n offset size : ℕ) → stored ≡ around_area area offset size → offset ≡ text_offset header → size ≡ text_size header
    → sum ≡ crc32_lvm_of stored → n ≡ text_checksum header → (sum ≡ n → ⊥) → IsTextSound header area → ⊥
text_unsound header area stored sum n offset size stored-is offset-is size-is sums n-is other sound =
    let same : stored ≡ around_area area (text_offset header) (text_size header) =
    stored-is ∙ ap (λ (k : ℕ). around_area area k size) offset-is ∙ ap (λ (k : ℕ). around_area area (text_offset header) k) size-is in
    other (sums ∙ ap (λ (b : List ℕ). crc32_lvm_of b) same ∙ sym sound ∙ sym n-is)

-- ---- a ring or a fault

pub ring_or_fault : RingOrFault
ring_or_fault sectors image start length ring Place not-device not-memory is due = elim due [
  | inl not-placed ↦ not-placed is.placed
  | inr there ↦ there.1.3 is.names.placed
]
ring_or_fault sectors image start length ring Header not-device not-memory is due = due.1 is.names.is_header
ring_or_fault sectors image start length ring Ignored not-device not-memory is due = is.names.not_ignored due.1.1
ring_or_fault sectors image start length ring Empty not-device not-memory is due = is.names.not_empty due.1.2
ring_or_fault sectors image start length ring Checksum not-device not-memory is due = due.unsound is.sound
ring_or_fault sectors image start length ring Device not-device not-memory is due = not-device refl
ring_or_fault sectors image start length ring Memory not-device not-memory is due = not-memory refl
