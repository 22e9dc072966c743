use Rattle.std.proofs.Common.{◌≡◌, List, ℕ, ◌++◌, codes, decimal, ap, ◌∙◌}
use Rattle.std.proofs.lemmas.Result.{on_err_weaker}
use Rattle.sj_text.proofs.Appends.{Appending, begun, grows_to, stays, stops, at_error}
use Rattle.sj_rows.specs.RowText.{escaped}
use Rattle.sj_group.specs.Grouping.{entry_text}
use Rattle.sj_group.proofs.text.entry_text.Goals as goal

-- the letter and the key have come, with a TAB behind each
keyed : (old key rest one two three : List ℕ) → one ≡ old ++ codes "G\t" → two ≡ one ++ key → three ≡ two ++ codes "\t" → Appending old (codes "G\t" ++ (key ++ (codes "\t" ++ rest))) three rest
keyed old key rest one two three e1 e2 e3 =
    let text : List ℕ = codes "G\t" ++ (key ++ (codes "\t" ++ rest)) in
    let a1 : Appending old text one (key ++ (codes "\t" ++ rest)) = grows_to old text old (codes "G\t") (key ++ (codes "\t" ++ rest)) one (begun old text) e1 in
    let a2 : Appending old text two (codes "\t" ++ rest) = grows_to old text one key (codes "\t" ++ rest) two a1 e2 in
    grows_to old text two (codes "\t") rest three a2 e3

-- and the number has come
numbered : (old key rest one two three four : List ℕ) (count : ℕ) → one ≡ old ++ codes "G\t" → two ≡ one ++ key → three ≡ two ++ codes "\t" → four ≡ three ++ decimal count
    → Appending old (codes "G\t" ++ (key ++ (codes "\t" ++ (decimal count ++ rest)))) four rest
numbered old key rest one two three four count e1 e2 e3 e4 =
    grows_to old (codes "G\t" ++ (key ++ (codes "\t" ++ (decimal count ++ rest)))) three (decimal count) rest four (keyed old key (decimal count ++ rest) one two three e1 e2 e3) e4

-- with its TAB
tabbed : (old key rest one two three four five : List ℕ) (count : ℕ) → one ≡ old ++ codes "G\t" → two ≡ one ++ key → three ≡ two ++ codes "\t" → four ≡ three ++ decimal count → five ≡ four ++ codes "\t"
    → Appending old (codes "G\t" ++ (key ++ (codes "\t" ++ (decimal count ++ (codes "\t" ++ rest))))) five rest
tabbed old key rest one two three four five count e1 e2 e3 e4 e5 =
    grows_to old (codes "G\t" ++ (key ++ (codes "\t" ++ (decimal count ++ (codes "\t" ++ rest))))) four (codes "\t") rest five (numbered old key (codes "\t" ++ rest) one two three four count e1 e2 e3 e4) e5

pub returns-in_err-push-4-clause-err : goal.returns-in_err-push-4-clause-err
returns-in_err-push-4-clause-err c =
    let old : List ℕ = c.args.out.now in
    let rest : List ℕ = decimal c.args.count ++ (codes "\t" ++ (escaped c.args.gathered.now ++ codes "\n")) in
    at_error c.from_residual-in_err-push-4.result (stays old (entry_text c.args.key.now c.args.count c.args.gathered.now) c.push-3.new.self rest c.push-4.new.self
    (keyed old c.args.key.now rest c.push.new.self c.push-2.new.self c.push-3.new.self c.in_ok-push.ensures.ok c.in_ok-push-2.ensures.ok c.in_ok-push-3.ensures.ok) c.in_err-push-4.ensures.err)

pub returns-in_err-push-5-clause-err : goal.returns-in_err-push-5-clause-err
returns-in_err-push-5-clause-err c =
    let old : List ℕ = c.args.out.now in
    let rest : List ℕ = codes "\t" ++ (escaped c.args.gathered.now ++ codes "\n") in
    at_error c.from_residual-in_err-push-5.result (stays old (entry_text c.args.key.now c.args.count c.args.gathered.now) c.push-4.new.self rest c.push-5.new.self
    (numbered old c.args.key.now rest c.push.new.self c.push-2.new.self c.push-3.new.self c.push-4.new.self c.args.count c.in_ok-push.ensures.ok c.in_ok-push-2.ensures.ok c.in_ok-push-3.ensures.ok
    (c.in_ok-push-4.ensures.ok ∙ ap (λ l. c.push-3.new.self ++ l) (c.as_bytes.ensures.value ∙ c.format.ensures.text))) c.in_err-push-5.ensures.err)

pub returns-in_err-escaped_text-clause-err : goal.returns-in_err-escaped_text-clause-err
returns-in_err-escaped_text-clause-err c =
    let old : List ℕ = c.args.out.now in
    let rest : List ℕ = escaped c.args.gathered.now ++ codes "\n" in
    at_error c.from_residual-in_err-escaped_text.result (stops old (entry_text c.args.key.now c.args.count c.args.gathered.now) c.push-5.new.self (escaped c.args.gathered.now) (codes "\n") c.escaped_text.new.out
    (tabbed old c.args.key.now rest c.push.new.self c.push-2.new.self c.push-3.new.self c.push-4.new.self c.push-5.new.self c.args.count c.in_ok-push.ensures.ok c.in_ok-push-2.ensures.ok c.in_ok-push-3.ensures.ok
    (c.in_ok-push-4.ensures.ok ∙ ap (λ l. c.push-3.new.self ++ l) (c.as_bytes.ensures.value ∙ c.format.ensures.text)) c.in_ok-push-5.ensures.ok) c.in_err-escaped_text.ensures.err)

pub returns-clause-err : goal.returns-clause-err
returns-clause-err c =
    let old : List ℕ = c.args.out.now in
    let text : List ℕ = entry_text c.args.key.now c.args.count c.args.gathered.now in
    let rest : List ℕ = escaped c.args.gathered.now ++ codes "\n" in
    let a = tabbed old c.args.key.now rest c.push.new.self c.push-2.new.self c.push-3.new.self c.push-4.new.self c.push-5.new.self c.args.count c.in_ok-push.ensures.ok c.in_ok-push-2.ensures.ok c.in_ok-push-3.ensures.ok
    (c.in_ok-push-4.ensures.ok ∙ ap (λ l. c.push-3.new.self ++ l) (c.as_bytes.ensures.value ∙ c.format.ensures.text)) c.in_ok-push-5.ensures.ok in
    let b = grows_to old text c.push-5.new.self (escaped c.args.gathered.now) (codes "\n") c.escaped_text.new.out a c.in_ok-escaped_text.ensures.ok in
    on_err_weaker c.push-6.result (λ same. stays old text c.escaped_text.new.out (codes "\n") c.push-6.new.self b same) c.push-6.ensures.err
