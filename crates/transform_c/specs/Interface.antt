-- Document 01, "What the decoder covers": parameters and answers as C passes them, and those that they stand for.
use Rattle.std.specs.Prelude.{not, eqb}
use Rattle.component.specs.declared.parameters.Parameters.{Parameters}
use Rattle.component.specs.declared.parameters.Answer.{Answer}
use Rattle.transform_c.specs.declared.KafsillunParameters.{KafsillunParameters}
use Rattle.transform_c.specs.declared.KafsillunAnswer.{KafsillunAnswer}

-- An intra flag that is not 0 says yes.
unfoldable pub parameters_of : KafsillunParameters → Parameters
parameters_of p =
    record {
      width = p.width;
      height = p.height;
      depth = p.depth;
      wavelet = p.wavelet;
      intra = not (eqb p.intra 0);
      codeblocks_across = p.codeblocks_across;
      codeblocks_down = p.codeblocks_down;
    }

-- The same two numbers.
unfoldable pub answer_of : KafsillunAnswer → Answer
answer_of a = record { status = a.status; place = a.place }
