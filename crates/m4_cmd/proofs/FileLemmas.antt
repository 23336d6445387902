-- A started file that is fed to a reader piece by piece.
use Rattle.std.proofs.Common.{◌≡◌, ℕ, ◌+◌, ◌^◌, ◌≤◌, List, ◌++◌, length, take, Bool, IsTrue, Option, Some, None, sym, ap, ◌∙◌, subst, arith, append_assoc, append-nil, length-append}
use Rattle.std.specs.Io.KnownBytes.{Consumes, IsAtEnd}
use Rattle.std.proofs.lemmas.List.{length-take-le}
use Rattle.m4_model.specs.Matrix.{Matrix}
use Rattle.m4_model.specs.FormTexts.{ReadsAs}
use Rattle.m4_model.specs.Stock.{Stock}
use Rattle.m4_model.specs.declared.form.Form.{Form}
use Rattle.m4_etext.specs.FormReading.{Fed, StandsForText, IsFaultIn, IsFaultOfAllIn, MayGoOn}
use Rattle.m4_etext.specs.declared.fault.TextFault.{TextFault}
use Rattle.m4_cmd.specs.Files.{HasFed}

-- What the loop keeps: the reader stands for what was read of the file.
pub record FedSoFar (stock_then stock_now : Option Stock) (started_now : Bool) (rest_then rest_now : Option (List ℕ)) (before now : ℕ) (form : Form) (fed : ℕ) (reader : Fed) : Type 0 where
  pub stock : stock_now ≡ stock_then
  pub started : IsTrue started_now
  pub kept : now ≡ before
  pub same_form : reader.form ≡ form
  pub few : fed ≤ 2 ^ 29
  pub bytes : List ℕ
  pub count : length bytes ≡ fed
  pub stands : StandsForText reader bytes
  pub taken : Consumes rest_then rest_now bytes

-- one piece behind others
pub consumes_more : (a b c : Option (List ℕ)) (xs ys : List ℕ) → Consumes a b xs → Consumes b c ys → Consumes a c (xs ++ ys)
consumes_more None b c xs ys first second = tt
consumes_more (Some x) None c xs ys first second = absurd first
consumes_more (Some x) (Some y) None xs ys first second = absurd second
consumes_more (Some x) (Some y) (Some z) xs ys first second = first ∙ ap (λ w. xs ++ w) second ∙ sym (append_assoc xs ys z)

-- what was read is all, or a front
pub all_read : (a b : Option (List ℕ)) (xs left : List ℕ) → Consumes a b xs → IsAtEnd b → a ≡ Some left → left ≡ xs
all_read None b xs left taken end is = absurd cc
all_read (Some x) None xs left taken end is = absurd taken
all_read (Some x) (Some y) xs left taken end is =
    let same : left ≡ x = cc in
    same ∙ taken ∙ ap (λ w. xs ++ w) end ∙ append-nil xs

front_read : (a b : Option (List ℕ)) (xs left : List ℕ) → Consumes a b xs → a ≡ Some left → (after : List ℕ) × (left ≡ xs ++ after)
front_read None b xs left taken is = absurd cc
front_read (Some x) None xs left taken is = absurd taken
front_read (Some x) (Some y) xs left taken is = let same : left ≡ x = cc in (y, same ∙ taken)

-- a front that is refused whatever follows
pub refused_front : (a b : Option (List ℕ)) (form : Form) (xs left : List ℕ) (fault : TextFault) → Consumes a b xs → IsFaultOfAllIn form xs fault → a ≡ Some left → IsFaultIn form left fault
refused_front a b form xs left fault taken all is =
    let found = front_read a b xs left taken is in
    subst (λ l. IsFaultIn form l fault) (sym found.1) (all found.0)

-- how many bytes were fed
pub count_more : (bytes piece : List ℕ) (fed n : ℕ) → length bytes ≡ fed → n ≤ length piece → length (bytes ++ take n piece) ≡ fed + n
count_more bytes piece fed n count within = length-append bytes (take n piece) ∙ omega (arith, count, length-take-le n piece within)

-- what a reader that was fed a file is read as, and refused with
pub fed_is_read : (rest : Option (List ℕ)) (reader : Fed) (form : Form) (M : Matrix) → HasFed rest reader → reader.form ≡ form
    → ((bytes : List ℕ) → StandsForText reader bytes → ReadsAs reader.form bytes M) → (left : List ℕ) → rest ≡ Some left → ReadsAs form left M
fed_is_read rest reader form M has same reads left is =
    subst (λ l. ReadsAs form l M) (sym (has.all left is)) (subst (λ f. ReadsAs f has.bytes M) same (reads has.bytes has.stands))

pub fed_is_refused : (rest : Option (List ℕ)) (reader : Fed) (form : Form) (fault : TextFault) → HasFed rest reader → reader.form ≡ form
    → ((bytes : List ℕ) → StandsForText reader bytes → IsFaultIn reader.form bytes fault) → (left : List ℕ) → rest ≡ Some left → IsFaultIn form left fault
fed_is_refused rest reader form fault has same refused left is =
    subst (λ l. IsFaultIn form l fault) (sym (has.all left is)) (subst (λ f. IsFaultIn f has.bytes fault) same (refused has.bytes has.stands))

-- one piece more
module _ (stock_then stock_now stock_next : Option Stock) (started_now started_next : Bool) (rest_then rest_now rest_next : Option (List ℕ)) (before now next : ℕ) (form : Form) (fed n : ℕ) (old : Fed) (piece : List ℕ)
    (so_far : FedSoFar stock_then stock_now started_now rest_then rest_now before now form fed old) (took : Consumes rest_now rest_next (take n piece)) where
  taken : Consumes rest_then rest_next (so_far.bytes ++ take n piece)
  taken = consumes_more rest_then rest_now rest_next so_far.bytes (take n piece) so_far.taken took

  pub fed_step : (new : Fed) → stock_next ≡ stock_now → started_next ≡ started_now → next ≡ now → new.form ≡ old.form → n ≤ length piece
      → ((bytes : List ℕ) → StandsForText old bytes → StandsForText new (bytes ++ take n piece)) → ((bytes : List ℕ) → StandsForText new bytes → MayGoOn new bytes)
      → FedSoFar stock_then stock_next started_next rest_then rest_next before next form (fed + n) new
  fed_step new same_stock same_started same_count same_form within stands goes_on =
      let count = count_more so_far.bytes piece fed n so_far.count within in
      let now_stands = stands so_far.bytes so_far.stands in
      record {
        stock = same_stock ∙ so_far.stock;
        started = subst IsTrue (sym same_started) so_far.started;
        kept = same_count ∙ so_far.kept;
        same_form = same_form ∙ so_far.same_form;
        few = subst (λ k. k ≤ 2 ^ 29) count (goes_on (so_far.bytes ++ take n piece) now_stands).short;
        bytes = so_far.bytes ++ take n piece;
        count = count;
        stands = now_stands;
        taken = taken;
      }

  pub refused_step : (fault : TextFault) → ((bytes : List ℕ) → StandsForText old bytes → IsFaultOfAllIn old.form (bytes ++ take n piece) fault)
      → (left : List ℕ) → rest_then ≡ Some left → IsFaultIn form left fault
  refused_step fault refused left is =
      refused_front rest_then rest_next form (so_far.bytes ++ take n piece) left fault taken
      (subst (λ f. IsFaultOfAllIn f (so_far.bytes ++ take n piece) fault) so_far.same_form (refused so_far.bytes so_far.stands)) is

  pub fed_all : n ≡ 0 → IsAtEnd rest_next → HasFed rest_then old
  fed_all none end = record {
    bytes = so_far.bytes;
    stands = so_far.stands;
    all = λ left is.
        let same : so_far.bytes ++ take n piece ≡ so_far.bytes = ap (λ k. so_far.bytes ++ take k piece) none ∙ append-nil so_far.bytes in
        all_read rest_then rest_next (so_far.bytes ++ take n piece) left taken end is ∙ same;
  }
