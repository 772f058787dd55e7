mod OwnAnswers
