use Rattle.whole_farm.proofs.Wholes.{each_word_says_its_output, each_whole_is_as_words_say}
use Rattle.whole_farm.proofs.Wholes.{each_merge_ends_as_words_say}
use Rattle.whole_farm.proofs.laws.each_word_is_of_its_output.Goals as goal

pub returns : goal.returns
returns c =
    record {
      word = each_word_says_its_output c.switches_say_their_words.ensures.laws;
      whole = each_whole_is_as_words_say c.switches_say_their_words.ensures.laws;
      merge = each_merge_ends_as_words_say c.switches_say_their_words.ensures.laws;
    }
