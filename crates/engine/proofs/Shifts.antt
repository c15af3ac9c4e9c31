-- The bits of a word, by shifts and from the top down. Assumes nothing.
use Rattle.std.proofs.Common.{◌≡◌, ℕ, zero, suc, ◌+◌, ◌*◌, ◌/◌, ◌%◌, ◌^◌, ◌<◌, ◌≤◌, Bool, true, false, ◌&&◌, eqb, ltb, List, [], get_or, sym, refl, ap, ◌∙◌, ap₂, ⊎_elim, le_of_suc-le-suc, div-one, arith}
use lib.Bits.{bit_and}
use mathlib.Core.Bool.{and-false, and-true}
use mathlib.Core.Path.{subst⁻¹}
use mir.Val.{bool_byte}
use native.Mathlib.Nat.{div-div-eq-div-mul, pow-succ'}
use Rattle.std.proofs.lemmas.Nat.{and_mask}
use Rattle.std.proofs.lemmas.Bool.{and_from, and_parts, cases_Bool, lt-ltb, ltb-true}
use Rattle.engine.specs.Lines.{Way}
use Rattle.engine.specs.Words.{bit, inside, said}

-- bit d is what a shift by d leaves lowest
pub bit_shift : (d w : ℕ) → eqb (w / 2 ^ d % 2) 1 ≡ bit w d
bit_shift zero w = ap (λ n. eqb (n % 2) 1) (div-one w)
bit_shift (suc d) w =
    ap (λ n. eqb (w / n % 2) 1) (pow-succ' 2 d) ∙ ap (λ n. eqb (n % 2) 1) (sym (div-div-eq-div-mul w 2 (2 ^ d))) ∙ bit_shift d (w / 2)

pub bit_mask : (d w : ℕ) → eqb (bit_and (w / 2 ^ d) 1) 1 ≡ bit w d
bit_mask d w = ap (λ n. eqb n 1) (and_mask (w / 2 ^ d) 1) ∙ bit_shift d w

-- an empty word says no
pub bit_zero : (d : ℕ) → bit 0 d ≡ false
bit_zero zero = refl
bit_zero (suc d) = bit_zero d

lowest : (v : Bool) (w : ℕ) → eqb ((2 * w + bool_byte v) % 2) 1 ≡ v
lowest true w = let e : (2 * w + 1) % 2 ≡ 1 = omega arith in ap (λ n. eqb n 1) e
lowest false w = let e : (2 * w + 0) % 2 ≡ 0 = omega arith in ap (λ n. eqb n 1) e

higher : (v : Bool) (w : ℕ) → (2 * w + bool_byte v) / 2 ≡ w
higher true w = omega arith
higher false w = omega arith

-- a bit set in below the others
pub bit_more : (v : Bool) (w n : ℕ) (f : ℕ → Bool) → v ≡ f 0 → ((e : ℕ) → e < n → bit w e ≡ f (suc e)) → (e : ℕ) → e < suc n → bit (2 * w + bool_byte v) e ≡ f e
bit_more v w n f low high zero h = lowest v w ∙ low
bit_more v w n f low high (suc e) h = ap (λ x. bit x e) (higher v w) ∙ high e (le_of_suc-le-suc h)

-- one more bit fits
pub word_more : (v : Bool) (w n : ℕ) → w < 2 ^ n → 2 * w + bool_byte v < 2 ^ suc n
word_more true w n h = let e = pow-succ' 2 n in omega arith
word_more false w n h = let e = pow-succ' 2 n in omega arith

-- a hop within bounds is inside
pub inside_from : (t c d : ℕ) → t < 64 → c < 48 → d < 48 → inside t c d ≡ true
inside_from t c d ht hc hd =
    and_from (ltb t 64) (ltb c 48 && ltb d 48) (lt-ltb t 64 ht) (and_from (ltb c 48) (ltb d 48) (lt-ltb c 48 hc) (lt-ltb d 48 hd))

pub inside_parts : (t c d : ℕ) → inside t c d ≡ true → (t < 64) × (c < 48) × (d < 48)
inside_parts t c d h =
    let one = and_parts (ltb t 64) (ltb c 48 && ltb d 48) h in
    let two = and_parts (ltb c 48) (ltb d 48) one.1 in
    (ltb-true t 64 one.0, ltb-true c 48 two.0, ltb-true d 48 two.1)

-- where all words of the first places say what a way says, so does the table, within its bounds
pub said_upto : (words : List (List ℕ)) (way : Way) (n : ℕ) → ((t c d : ℕ) → t < 64 → c < 48 → d < 48 → bit (get_or (get_or words t []) c 0) d ≡ (ltb t n && way t c d)) → (t c d : ℕ) → said words t c d ≡ ((ltb t n && inside t c d) && way t c d)
said_upto words way n words-say t c d = ⊎_elim within outside (cases_Bool (inside t c d))
  where
    Says : Bool → Type 0
    Says b = (b && bit (get_or (get_or words t []) c 0) d) ≡ ((ltb t n && b) && way t c d)

    outside : inside t c d ≡ false → said words t c d ≡ ((ltb t n && inside t c d) && way t c d)
    outside h = subst⁻¹ Says h (sym (ap (λ b. b && way t c d) (and-false (ltb t n))))

    within : inside t c d ≡ true → said words t c d ≡ ((ltb t n && inside t c d) && way t c d)
    within h =
        let low = inside_parts t c d h in
        subst⁻¹ Says h (words-say t c d low.0 low.1 low.2 ∙ sym (ap (λ b. b && way t c d) (and-true (ltb t n))))

-- a table made from a way says at its places what the way says
pub said_agrees : (words : List (List ℕ)) (way : Way) (n : ℕ) → n ≤ 64 → ((t c d : ℕ) → said words t c d ≡ ((ltb t n && inside t c d) && way t c d)) → (t c d : ℕ) → t < n → c < 48 → d < 48 → said words t c d ≡ way t c d
said_agrees words way n most says t c d ht hc hd =
    let within = inside_from t c d (omega arith) hc hd in
    says t c d ∙ ap₂ (λ a b. (a && b) && way t c d) (lt-ltb t n ht) within

-- a table says what the bits of its words say
pub said_bit : (words : List (List ℕ)) (t c d : ℕ) → t < 64 → c < 48 → d < 48 → said words t c d ≡ bit (get_or (get_or words t []) c 0) d
said_bit words t c d ht hc hd = ap (λ b. b && bit (get_or (get_or words t []) c 0) d) (inside_from t c d ht hc hd)
