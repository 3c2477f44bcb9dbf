mod TalkLemmas
