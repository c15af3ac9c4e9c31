-- A table of verdicts as it is filled, a word after the other. Assumes nothing.
use Rattle.std.proofs.Common.{◌≡◌, ℕ, ◌+◌, ◌*◌, ◌<◌, ◌&&◌, ltb, min, List, [], length, get_or, set, replicate, sym, ap, subst, ◌∙◌, ⊎_elim, arith, length-set, get_or-set_other, get_or-set_same}
use Rattle.std.proofs.lemmas.Bool.{cases_eq, cases_lt, le-ltb, lt-ltb}
use Rattle.std.proofs.lemmas.List.{get_or-replicate, length-replicate}
use Rattle.engine.specs.Lines.{Way}
use Rattle.engine.specs.Words.{bit}
use Rattle.engine.proofs.Shifts.{bit_zero}

-- so many words, counted place by place, say what a way says, and the others say no
pub record Filling (way : Way) (done : ℕ) (words : List (List ℕ)) : Type 0 where
  pub tall : length words ≡ 64
  pub wide : (t : ℕ) → t < 64 → length (get_or words t []) ≡ 48
  pub says : (t c d : ℕ) → t < 64 → c < 48 → d < 48 → bit (get_or (get_or words t []) c 0) d ≡ (ltb (48 * t + c) done && way t c d)

pub filling_at : (way : Way) (m n : ℕ) (words : List (List ℕ)) → m ≡ n → Filling way m words → Filling way n words
filling_at way m n words e h = subst (λ k. Filling way k words) e h

-- an empty table
pub filling_none : (way : Way) → Filling way 0 (replicate 64 (replicate {A = ℕ} 48 0))
filling_none way = record {
  tall = length-replicate 64 (replicate {A = ℕ} 48 0);
  wide = λ t h. ap length (get_or-replicate 64 t (replicate {A = ℕ} 48 0) [] h) ∙ length-replicate {A = ℕ} 48 0;
  says = λ t c d ht hc hd.
      ap (λ row. bit (get_or row c 0) d) (get_or-replicate 64 t (replicate {A = ℕ} 48 0) [] ht)
      ∙ ap (λ w. bit w d) (get_or-replicate 48 c 0 0 hc)
      ∙ bit_zero d
      ∙ ap (λ b. b && way t c d) (sym (le-ltb (48 * t + c) 0 (omega arith)));
}

-- no number but the next one comes in below
ltb_other : (n m k : ℕ) → k ≡ m + 1 → (n ≡ m → ⊥) → ltb n m ≡ ltb n k
ltb_other n m k next ne =
    ⊎_elim (λ l. lt-ltb n m l ∙ sym (lt-ltb n k (omega arith))) (λ l. le-ltb n m l ∙ sym (le-ltb n k (omega (arith, ne)))) (cases_lt n m)

module _ (way : Way) (place cell word : ℕ) (words : List (List ℕ)) (small-place : place < 64) (small-cell : cell < 48) (before : Filling way (48 * place + cell) words) (word-says : (d : ℕ) → d < 48 → bit word d ≡ way place cell d) where
  abbrev row : List ℕ
  row = get_or words place []

  abbrev after : List (List ℕ)
  after = set words place (set row cell word)

  row_here : get_or after place [] ≡ set row cell word
  row_here = let tall = before.tall in get_or-set_same words place (set row cell word) [] (omega arith)

  row_there : (t : ℕ) → (t ≡ place → ⊥) → get_or after t [] ≡ get_or words t []
  row_there t ne = get_or-set_other words place t (set row cell word) [] ne

  says_here : (c d : ℕ) → c < 48 → d < 48 → bit (get_or (get_or after place []) c 0) d ≡ (ltb (48 * place + c) (48 * place + (cell + 1)) && way place c d)
  says_here c d hc hd = ap (λ r. bit (get_or r c 0) d) row_here ∙ ⊎_elim same other (cases_eq c cell)
    where
      same : c ≡ cell → bit (get_or (set row cell word) c 0) d ≡ (ltb (48 * place + c) (48 * place + (cell + 1)) && way place c d)
      same e =
          let wide = before.wide place small-place in
          ap (λ i. bit (get_or (set row cell word) i 0) d) e
          ∙ ap (λ w. bit w d) (get_or-set_same row cell word 0 (omega arith))
          ∙ word-says d hd
          ∙ ap (λ i. way place i d) (sym e)
          ∙ ap (λ b. b && way place c d) (sym (lt-ltb (48 * place + c) (48 * place + (cell + 1)) (omega arith)))

      other : (c ≡ cell → ⊥) → bit (get_or (set row cell word) c 0) d ≡ (ltb (48 * place + c) (48 * place + (cell + 1)) && way place c d)
      other ne =
          ap (λ w. bit w d) (get_or-set_other row cell c word 0 ne)
          ∙ before.says place c d small-place hc hd
          ∙ ap (λ b. b && way place c d) (ltb_other (48 * place + c) (48 * place + cell) (48 * place + (cell + 1)) (omega arith) (λ e. ne (omega arith)))

  says_there : (t c d : ℕ) → (t ≡ place → ⊥) → t < 64 → c < 48 → d < 48 → bit (get_or (get_or after t []) c 0) d ≡ (ltb (48 * t + c) (48 * place + (cell + 1)) && way t c d)
  says_there t c d ne ht hc hd =
      ap (λ r. bit (get_or r c 0) d) (row_there t ne)
      ∙ before.says t c d ht hc hd
      ∙ ap (λ b. b && way t c d) (ltb_other (48 * t + c) (48 * place + cell) (48 * place + (cell + 1)) (omega arith) (λ e. ne (omega arith)))

  -- one word more
  pub filling_more : Filling way (48 * place + (cell + 1)) after
  filling_more = record {
    tall = length-set words place (set row cell word) ∙ before.tall;
    wide = λ t h.
        ⊎_elim
        (λ e. ap (λ s. length (get_or after s [])) e ∙ ap length row_here ∙ length-set row cell word ∙ before.wide place small-place)
        (λ ne. ap length (row_there t ne) ∙ before.wide t h)
        (cases_eq t place);
    says = λ t c d ht hc hd.
        ⊎_elim
        (λ e. subst (λ s. bit (get_or (get_or after s []) c 0) d ≡ (ltb (48 * s + c) (48 * place + (cell + 1)) && way s c d)) (sym e) (says_here c d hc hd))
        (λ ne. says_there t c d ne ht hc hd)
        (cases_eq t place);
  }

-- where the first places are full, the table says no at the others
pub filling_all : (way : Way) (n : ℕ) (words : List (List ℕ)) → Filling way (48 * min n 64) words → (t c d : ℕ) → t < 64 → c < 48 → d < 48 → bit (get_or (get_or words t []) c 0) d ≡ (ltb t n && way t c d)
filling_all way n words full t c d ht hc hd =
    full.says t c d ht hc hd
    ∙ ⊎_elim
    (λ l. ap (λ b. b && way t c d) (lt-ltb (48 * t + c) (48 * min n 64) (omega arith) ∙ sym (lt-ltb t n l)))
    (λ l. ap (λ b. b && way t c d) (le-ltb (48 * t + c) (48 * min n 64) (omega arith) ∙ sym (le-ltb t n l)))
    (cases_lt t n)
