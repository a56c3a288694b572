-- Document 02, request Four: the parameters of a picture in low delay slices as C passes them, and those that they stand for.
use Rattle.std.specs.Prelude.{not, eqb}
use Rattle.low_delay.specs.declared.parameters.LowDelay.{LowDelay}
use Rattle.kafsillun_c.specs.declared.KafsillunLowDelay.{KafsillunLowDelay}

-- An intra flag that is not 0 says yes.
unfoldable pub low_delay_of : KafsillunLowDelay → LowDelay
low_delay_of p =
    record {
      picture =
          record {
            luma_width = p.luma_width;
            luma_height = p.luma_height;
            chroma_width = p.chroma_width;
            chroma_height = p.chroma_height;
            depth = p.depth;
            intra = not (eqb p.intra 0);
            slices_across = p.slices_across;
            slices_down = p.slices_down;
            matrix = p.matrix;
          };
      numerator = p.numerator;
      denominator = p.denominator;
    }
