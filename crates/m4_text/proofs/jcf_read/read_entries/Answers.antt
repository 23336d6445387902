use Rattle.std.proofs.Common.{subst₂}
use Rattle.m4_text.specs.Tokens.{token_at, IsCell, LacksCell}
use Rattle.m4_text.proofs.JcfEntries.{entries_begin, entries_go_on, entry_wrong}
use Rattle.m4_text.proofs.jcf_read.read_entries.Goals as goal

pub loop-token-init : goal.loop-token-init
loop-token-init c = entries_begin c.args.bytes.now c.args.long c.args.start c.args.m.now c.requires c.rows-rows.ensures.matrix c.rows-rows.ensures.over_gf2

pub returns-in_default-cell_of-clause-err : goal.returns-in_default-cell_of-clause-err
returns-in_default-cell_of-clause-err c =
    let token = c.in-Some.token in
    let word = (token_at c.args.bytes.now token.start token.end).bytes in
    let lacks = subst₂ (λ m n. LacksCell word c.loop-token.begun m n) c.rows-rows.ensures.rows c.cols-cols.ensures.cols c.in_default-cell_of.ensures in
    entry_wrong c.args.bytes.now c.args.long c.args.start c.loop-token.place c.loop-token.begun token.start token.end c.args.m.now c.loop-token.m
    c.loop-token.invariant c.in-Some.ensures lacks

pub loop-token-preserved : goal.loop-token-preserved
loop-token-preserved c =
    let token = c.in-Some.token in
    let cell = c.in-Some-cell_of.cell in
    let word = (token_at c.args.bytes.now token.start token.end).bytes in
    let found = subst₂ (λ m n. IsCell word c.loop-token.begun m n cell.row cell.column) c.rows-rows.ensures.rows c.cols-cols.ensures.cols c.in-Some-cell_of.ensures in
    entries_go_on c.args.bytes.now c.args.long c.args.start c.loop-token.place c.loop-token.begun token.start token.end cell.row cell.column
    c.args.m.now c.loop-token.m c.put.new.self c.loop-token.invariant c.in-Some.ensures found c.put.ensures
