use Rattle.std.proofs.Common.{◌≡◌, ℕ, ◌*◌, ◌/◌, ◌^◌, ◌<◌, ◌≤◌, List, sym, subst, ap, ◌∙◌, arith}
use Rattle.m4_model.specs.Field.{Field, IsCarried, IsElement, mul, width}
use Rattle.m4_field.specs.Fields.{the_field}
use Rattle.m4_field.proofs.ProductSteps.{carried_laws}
use Rattle.m4_field.proofs.WidthLemmas.{width_facts}
use Rattle.m4_bits.specs.Products.{products}
use Rattle.m4_mzed.specs.Words.{element, AreElements}
use Rattle.m4_mzed.proofs.ProductLemmas.{AreFactors, are_factors, products_element}
use Rattle.m4_mzed.proofs.word.mul_word.Goals as goal

enough : (F : Field) → IsCarried F → (w : ℕ) → w ≡ width F → F.degree ≤ w
enough F carried w is = let r = (width_facts F carried).room in omega (arith, r, is)

few : (F : Field) → IsCarried F → (w : ℕ) → w ≡ width F → w < 64
few F carried w is = let r = (width_facts F carried).few in omega (arith, r, is)

fits : (w : ℕ) → w < 64 → w * 8 < 9223372036854775808
fits w small = omega (arith, small)

pub factors-requires : goal.factors-requires
factors-requires g c =
    let F = the_field c.args.f.now in
    (fits g.row.W (few F c.args.f.now.carried g.row.W c.requires.wide), (enough F c.args.f.now.carried g.row.W c.requires.wide, c.requires.element))

pub product_of-requires : goal.product_of-requires
product_of-requires g c =
    let small = few (the_field c.args.f.now) c.args.f.now.carried g.row.W c.requires.wide in
    (fits g.row.W small, small)

-- over plain variables
multiplied : (F : Field) (w low word x product : ℕ) (factors patterns : List ℕ) → w ≡ width F → AreFactors F w low x factors patterns → AreElements F w word → product ≡ products w low patterns word
    → (k : ℕ) → k < 64 / w → element w k product ≡ mul F (element w k word) x
multiplied F w low word x product list patterns is factors elements made =
    let P : ℕ → Type 0 = λ v. AreElements F v word → (k : ℕ) → k < 64 / v → element v k product ≡ mul F (element v k word) x in
    subst P (sym is) (λ small k below. ap (element (width F) k) made ∙ products_element F w low x list patterns factors word k below (small k below)) elements

-- products of elements are elements
closed : (F : Field) → IsCarried F → (w word product x : ℕ) → AreElements F w word → x < 2 ^ F.degree
    → ((k : ℕ) → k < 64 / w → element w k product ≡ mul F (element w k word) x) → AreElements F w product
closed F carried w word product x elements small products k below =
    let P : ℕ → Type 0 = IsElement F in subst P (sym (products k below)) ((carried_laws F carried).closed (element w k word) x (elements k below) small)

pub returns-clause-products : goal.returns-clause-products
returns-clause-products g c =
    let F = the_field c.args.f.now in
    let factors = are_factors F c.args.f.now.carried g.row.W c.ones-low.result c.width.result c.args.x c.factors.result c.patterns.result c.requires.wide c.width.ensures.width c.ones-low.ensures.word
    c.ones-low.ensures.ones c.factors.ensures.powers c.factors.ensures.elements c.factors.ensures.rest c.patterns.ensures in
    multiplied F g.row.W c.ones-low.result c.args.word c.args.x c.product_of.result c.factors.result c.patterns.result c.requires.wide factors c.requires.elements c.product_of.ensures

pub returns-clause-elements : goal.returns-clause-elements
returns-clause-elements g c =
    closed (the_field c.args.f.now) c.args.f.now.carried g.row.W c.args.word c.product_of.result c.args.x c.requires.elements c.requires.element (returns-clause-products g c)
