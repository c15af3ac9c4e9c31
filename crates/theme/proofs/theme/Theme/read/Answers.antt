use Rattle.std.proofs.Common.{◌≡◌, ℕ, ◌/◌, List, ◌++◌, length, take, None, Option, sym, refl, ap, ◌∙◌, arith}
use Rattle.std.proofs.lemmas.Result.{err_from_is_err_and}
use Rattle.theme.specs.declared.place.Place.{Place}
use Rattle.theme.specs.declared.refusal.PageRefusal.{PageRefusal}
use Rattle.theme.specs.Refusals.{answer}
use Rattle.theme.specs.Themes.{lawful}
use Rattle.theme.specs.Pages.{refusal_of, places_in}
use Rattle.theme.proofs.Asked.{where_ok}
use Rattle.theme.proofs.Pages.{exactly_refused, exactly_accepted, lawful_held, accepted_back, refused_head, rows_decide, so_many, filled_theme}
use Rattle.theme.proofs.theme.Theme.read.Goals as goal

pub returns-in_err-head : goal.returns-in_err-head
returns-in_err-head c =
    let p = err_from_is_err_and c.from_residual.result c.from_residual.ensures.1 in
    let refused = refused_head c.args.page.now _ c.in_err-head.ensures in
    rw (p.1, p.2) (record {
      answer = sym (ap (λ (o : Option PageRefusal). answer tt o) refused);
      held = refl;
      exactly = exactly_refused c.args.page.now _ _ refused;
    })

pub returns-in_err-places-clause-exactly : goal.returns-in_err-places-clause-exactly
returns-in_err-places-clause-exactly c =
    let p = err_from_is_err_and c.from_residual-in_err-places.result c.from_residual-in_err-places.ensures.1 in
    let known = c.in_ok-head.ensures in
    rw (p.1) (exactly_refused c.args.page.now _ _ (rows_decide c.args.page.now c.in_ok-head.rows.now c.in_ok-head.head known.1 known.0 ∙ c.in_err-places.ensures))

-- what is held now are the places of all the rows
items_are : (c : goal.After-self-1) → c.extend_from_slice.new.self.items ≡ places_in (length c.in_ok-head.rows.now / 11) c.in_ok-head.rows.now
items_are c =
    let places : List Place = c.in_ok-places.places in
    let many = so_many c.args.page.now c.in_ok-head.rows.now c.in_ok-head.head c.in_ok-head.ensures.1 in
    c.extend_from_slice.ensures.items
    ∙ where_ok _ _ _ _ c.unwrap.ensures
    ∙ ap (λ (xs : List Place). xs ++ take c.in_ok-head.head.count places) c.clear.ensures.items
    ∙ ap (λ (n : ℕ). take n places) (sym many)
    ∙ c.in_ok-places.ensures.1

accepted : (c : goal.After-self-1) → refusal_of c.args.page.now ≡ None
accepted c =
    rows_decide c.args.page.now c.in_ok-head.rows.now c.in_ok-head.head c.in_ok-head.ensures.1 c.in_ok-head.ensures.0 ∙ c.in_ok-places.ensures.0

pub invariant_of-self : goal.invariant_of-self
invariant_of-self c =
    let held = c.extend_from_slice.new.self in
    let is = filled_theme c.args.page.now c.in_ok-head.rows.now c.in_ok-head.head c.in_ok-head.ensures.1 held.items (items_are c) in (
      omega (arith, c.extend_from_slice.ensures.capacity, c.clear.ensures.capacity, c.self.invariant.0),
      lawful_held held.items c.in_ok-head.head.bar (ap lawful is ∙ (accepted_back c.args.page.now (accepted c)).0),
    )

pub returns : goal.returns
returns c =
    let is = filled_theme c.args.page.now c.in_ok-head.rows.now c.in_ok-head.head c.in_ok-head.ensures.1 _ (items_are c) in
    record {
      answer = sym (ap (λ (o : Option PageRefusal). answer tt o) (accepted c));
      held = is;
      exactly = exactly_accepted c.args.page.now _ (accepted c) is;
    }
