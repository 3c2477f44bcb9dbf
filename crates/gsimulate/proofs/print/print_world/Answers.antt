use Rattle.gsimulate.proofs.LineLemmas.{prints_disagreement, prints_two_formats, prints_unkept}
use Rattle.gsimulate.proofs.print.print_world.Goals as goal

pub returns-in-TwoFormats-clause-printed : goal.returns-in-TwoFormats-clause-printed
returns-in-TwoFormats-clause-printed g c = prints_two_formats _ c.args.fault.now c.in-TwoFormats.is c.print_line.ensures.printed

pub returns-in-Disagree-clause-printed : goal.returns-in-Disagree-clause-printed
returns-in-Disagree-clause-printed g c =
    prints_disagreement _ c.args.fault.now c.in-Disagree.id c.in-Disagree.is c.print_disagreement.ensures.printed

pub returns-in-NotKept-clause-printed : goal.returns-in-NotKept-clause-printed
returns-in-NotKept-clause-printed g c =
    prints_unkept _ c.args.fault.now c.in-NotKept.id c.in-NotKept.is c.print_unkept.ensures.printed
